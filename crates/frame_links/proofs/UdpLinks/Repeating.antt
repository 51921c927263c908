-- Looks at a socket, and datagrams given to it, one behind another.
use Rattle.std.proofs.Common.{◌≡◌, ℕ, zero, suc, ◌+◌, ◌≤◌, Bool, true, false, ◌&&◌, List, [], ◌∷◌, ◌++◌, length, map, All, Option, None, Some, Result, Ok, Err, is_ok, IfOk, IfSome, IsOkAnd, refl, sym, ap, subst, ◌∙◌, arith, append-nil, append_assoc, length-append}
use Rattle.std.proofs.lemmas.List.{map-append}
use Rattle.std.proofs.lemmas.List.Elements.{All-append}
use Rattle.std.specs.declared.io.Error.{Error}
use Rattle.std.specs.declared.net.socket_addr.SocketAddr.{SocketAddr}
use Rattle.pdus.specs.ClnpBase.declared.streams.Failed.{Failed}
use Rattle.frame_links.specs.LinkBoard.Links.{CameFrame, Grows}
use Rattle.frame_links.specs.UdpLinks.Sockets.{Datagram, GaveOne, GivesEach, GivesOne, LooksOnce, LooksTo, SocketState, datagram_in, gift_of, is_again, seen_of}
use Rattle.frame_links.specs.declared.link_board.end.End.{End}
use Rattle.frame_links.specs.declared.link_board.link.Got.{Got}
use Rattle.frame_links.proofs.LinkBoard.Sending.{take_front}

all_none : {A : Type 0} (P : A → Type 0) → All P []
all_none P k d h = absurd (omega (arith, h))

all_one : {A : Type 0} (P : A → Type 0) (x : A) → P x → All P (x ∷ [])
all_one P x p zero d h = p
all_one P x p (suc k) d h = absurd (omega (arith, h))

grows_by_none : {A : Type 0} (told : Option (List A)) → Grows told told []
grows_by_none None = tt
grows_by_none (Some xs) = sym (append-nil xs)

grows_on : {A : Type 0} (before between after : Option (List A)) (xs ys : List A) → Grows before between xs → Grows between after ys
    → Grows before after (xs ++ ys)
grows_on before between None xs ys g h = tt
grows_on before None (Some after) xs ys g h = absurd h
grows_on None (Some between) (Some after) xs ys g h = absurd g
grows_on (Some before) (Some between) (Some after) xs ys g h = h ∙ ap (λ zs. zs ++ ys) g ∙ append_assoc before xs ys

-- the octets of a datagram stand at the front of the buffer
pub front_of : (came : Result (ℕ × SocketAddr) Error) (front rest : List ℕ) → IfOk came (λ c. c.0 ≤ length front)
    → datagram_in came (front ++ rest) ≡ datagram_in came front
front_of (Ok c) front rest h = ap (λ (octets : List ℕ). Ok (record { from = c.1; octets = octets })) (take_front c.0 front rest h)
front_of (Err error) front rest h = refl

-- a frame that comes is no longer than the room for it
pub few_octets : (came : Result (ℕ × SocketAddr) Error) (told : Result (Option Got) Failed) (room : ℕ) → room ≤ 70000
    → IfOk came (λ c. c.0 ≤ room) → IfOk told (λ look. IfSome look (λ got. IsOkAnd came (λ c. got.len ≡ c.0)))
    → IfOk told (λ look. IfSome look (λ got. got.len ≤ 70000))
few_octets came (Err failed) room r w l = tt
few_octets came (Ok None) room r w l = tt
few_octets (Ok c) (Ok (Some got)) room r w l = omega (arith, l)
few_octets (Err error) (Ok (Some got)) room r w l = absurd l

-- looks that saw nothing
pub record LooksEmpty (before after : SocketState) : Type 0 where
  pub empty : List (Result Datagram Error)
  pub looks : Grows before.looks after.looks empty
  pub gifts : Grows before.gifts after.gifts []
  pub nothing : All (λ look. seen_of look ≡ Ok None) empty

pub no_look : (state : SocketState) → LooksEmpty state state
no_look state = record {
  empty = [];
  looks = grows_by_none state.looks;
  gifts = grows_by_none state.gifts;
  nothing = all_none _;
}

pub one_more_look : (before between after : SocketState) (told : Result (Option CameFrame) Failed) → LooksEmpty before between
    → LooksOnce between after told → told ≡ Ok None → LooksEmpty before after
one_more_look before between after told looks one none = record {
  empty = looks.empty ++ one.look ∷ [];
  looks = grows_on before.looks between.looks after.looks _ _ looks.looks one.looked.looks;
  gifts = grows_on before.gifts between.gifts after.gifts [] [] looks.gifts one.looked.gifts;
  nothing = All-append (λ look. seen_of look ≡ Ok None) looks.empty (one.look ∷ []) looks.nothing
      (all_one (λ look. seen_of look ≡ Ok None) one.look (sym one.seen ∙ none));
}

pub last_look : (before between after : SocketState) (told : Result (Option CameFrame) Failed) → LooksEmpty before between
    → LooksOnce between after told → LooksTo before after told
last_look before between after told looks one = record {
  empty = looks.empty;
  last = one.look;
  looks = grows_on before.looks between.looks after.looks _ _ looks.looks one.looked.looks;
  gifts = grows_on before.gifts between.gifts after.gifts [] [] looks.gifts one.looked.gifts;
  nothing = looks.nothing;
  seen = one.seen;
}

-- a datagram that was given so often for an end, and not taken yet
pub record GivesAgain (end : End) (octets : List ℕ) (before after : SocketState) (count : ℕ) : Type 0 where
  pub again : List (Result ℕ Error)
  pub looks : Grows before.looks after.looks []
  pub gifts : Grows before.gifts after.gifts (map (gift_of end octets) again)
  pub passing : All (λ outcome. is_again outcome ≡ true) again
  pub counted : length again + 1 ≡ count

pub not_given : (end : End) (octets : List ℕ) (state : SocketState) → GivesAgain end octets state state 1
not_given end octets state = record {
  again = [];
  looks = grows_by_none state.looks;
  gifts = grows_by_none state.gifts;
  passing = all_none _;
  counted = refl;
}

-- the gifts are those of all outcomes
gifts_on : (end : End) (octets : List ℕ) (before between after : SocketState) (count : ℕ) (outcome : Result ℕ Error)
    (given : GivesAgain end octets before between count) → GaveOne between after (gift_of end octets outcome)
    → Grows before.gifts after.gifts (map (gift_of end octets) (given.again ++ outcome ∷ []))
gifts_on end octets before between after count outcome given one =
    rw (map-append (gift_of end octets) given.again (outcome ∷ []))
    (grows_on before.gifts between.gifts after.gifts _ _ given.gifts one.gifts)

pub given_again : (end to : End) (octets : List ℕ) (before between after : SocketState) (count : ℕ) (outcome : Result ℕ Error)
    → GivesAgain end octets before between count → to ≡ end → GaveOne between after (gift_of to octets outcome)
    → is_again outcome ≡ true → GivesAgain end octets before after (count + 1)
given_again end to octets before between after count outcome given e one passes =
    let it = subst (λ (t : End). GaveOne between after (gift_of t octets outcome)) e one in
    record {
      again = given.again ++ outcome ∷ [];
      looks = grows_on before.looks between.looks after.looks [] [] given.looks it.looks;
      gifts = gifts_on end octets before between after count outcome given it;
      passing = All-append (λ o. is_again o ≡ true) given.again (outcome ∷ []) given.passing
          (all_one (λ o. is_again o ≡ true) outcome passes);
      counted = omega (arith, length-append given.again (outcome ∷ []), given.counted);
    }

-- the last time that it was given: it needn't be given again, or was given 1,000 times
pub given_last : (end to : End) (octets : List ℕ) (before between after : SocketState) (count : ℕ) (outcome : Result ℕ Error) (took : Bool)
    → GivesAgain end octets before between count → to ≡ end → GaveOne between after (gift_of to octets outcome) → count ≤ 1000
    → (is_again outcome ≡ true → count ≡ 1000) → took ≡ is_ok outcome → GivesOne end octets before after took
given_last end to octets before between after count outcome took given e one few up took_it =
    let it = subst (λ (t : End). GaveOne between after (gift_of t octets outcome)) e one in
    record {
      again = given.again;
      last = outcome;
      looks = grows_on before.looks between.looks after.looks [] [] given.looks it.looks;
      gifts = gifts_on end octets before between after count outcome given it;
      passing = given.passing;
      few = omega (arith, given.counted);
      given_up = λ p. omega (arith, given.counted, up p);
      took = took_it;
    }

and-assoc : (a b c : Bool) → ((a && b) && c) ≡ (a && (b && c))
and-assoc true b c = refl
and-assoc false b c = refl

and-true : (a : Bool) → a ≡ (a && true)
and-true true = refl
and-true false = refl

-- given for one more end
pub given_more : (ends : List End) (end : End) (octets : List ℕ) (before between after : SocketState) (all one : Bool)
    → GivesEach ends octets before between all → GivesOne end octets between after one
    → GivesEach (ends ++ end ∷ []) octets before after (all && one)
given_more [] end octets before between after all one (same, e) gives = (
  after,
  one,
  true,
  subst (λ s. GivesOne end octets s after one) (sym same) gives,
  (refl, refl),
  ap (λ a. a && one) e ∙ and-true one,
)
given_more (first ∷ ends) end octets before between after all one (middle, took, others, given, rest, e) gives = (
  middle,
  took,
  others && one,
  given,
  given_more ends end octets middle between after others one rest gives,
  ap (λ a. a && one) e ∙ and-assoc took others one,
)
