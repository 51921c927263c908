-- The error report of a frame's discard, as the code makes it (ISO 8473, section 6.10).
use Rattle.std.specs.Prelude.{◌≡◌, ℕ, List, Option, None, Some}
use Rattle.clnp_machine.specs.Local.{makes, report_unit, reports, rests}
use Rattle.clnp_machine.specs.System.{SystemState}
use Rattle.clnp_systems.specs.declared.action.Draft.{Draft}
use Rattle.clnp_systems.specs.Local.{IsDraft}

-- this draft is the report, of one of the system's addresses
pub record IsReportOf (s : SystemState) (frame : List ℕ) (reason place : ℕ) (draft : Draft) : Type 0 where
  pub own : List ℕ
  pub is_draft : IsDraft draft (report_unit s own frame reason place)
  pub made : reports s frame reason place ≡ makes s (report_unit s own frame reason place)

-- a report is made where there is a draft of one
abbrev pub IsReport : SystemState → (frame : List ℕ) → (reason place : ℕ) → Option Draft → Type 0
IsReport s frame reason place None = reports s frame reason place ≡ rests s
IsReport s frame reason place (Some draft) = IsReportOf s frame reason place draft
