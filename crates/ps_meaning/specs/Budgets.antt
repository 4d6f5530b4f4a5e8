-- What a section may spend, counted afresh in each.
use Rattle.std.specs.Prelude.{ℕ, ◌≤◌}
use Rattle.ps_objects.specs.declared.section.SectionKind.{SectionKind}
use Rattle.ps_objects.specs.declared.section.SectionKind.TheVariants.{Prolog, Setup, Page, Trailer}
use Rattle.ps_kinds.specs.declared.state.State.{State}

-- a turn is an object executed, a glyph begun or a data procedure called
abbrev pub turn_budget : SectionKind → ℕ
turn_budget Prolog = 200000000
turn_budget Setup = 200000000
turn_budget Page = 20000000
turn_budget Trailer = 200000000

-- a unit is an array's item, eight bytes of a string or a store in a dictionary
abbrev pub unit_budget : SectionKind → ℕ
unit_budget Prolog = 8000000
unit_budget Setup = 8000000
unit_budget Page = 1000000
unit_budget Trailer = 8000000

-- a show is a page that `showpage` or `copypage` gives out
abbrev pub show_budget : SectionKind → ℕ
show_budget Prolog = 4096
show_budget Setup = 4096
show_budget Page = 8
show_budget Trailer = 4096

-- bytes that are said
abbrev pub message_budget : SectionKind → ℕ
message_budget Prolog = 16777216
message_budget Setup = 16777216
message_budget Page = 1048576
message_budget Trailer = 16777216

-- nothing is over its budget
pub record IsInBudget (s : State) : Type 0 where
  pub turns : s.turns ≤ turn_budget s.kind
  pub units : s.units ≤ unit_budget s.kind
  pub shows : s.shows ≤ show_budget s.kind
  pub said : s.said ≤ message_budget s.kind
