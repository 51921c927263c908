-- What the fields of the entity of a system are to a contract.
use Rattle.clnp_systems.specs.EntityState.{SystemEntityState}
use Rattle.clnp_systems.specs.declared.entity.SystemEntity.TheInside.{Inside}

abbrev pub state_of : Inside → SystemEntityState
state_of entity =
    record {
      local = entity.local;
      esis = entity.esis;
      ports = entity.ports.items;
      routes = entity.routes;
      moment = entity.moment;
      congested = entity.congested;
      spent = entity.spent;
    }
