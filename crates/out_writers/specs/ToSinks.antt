-- What two sinks get of papers and text.
use Rattle.std.specs.Prelude.{◌≡◌, ℕ, List, Option}
use Rattle.ps_shapes.specs.Sheet.{Sheet}
use Rattle.rip_ports.specs.Ports.{Appends, AppendsFront}
use Rattle.out_writers.specs.Texts.{pictures}
use Rattle.out_writers.specs.declared.to_sinks.ToSinks.{ToSinks}

-- the same two sinks
pub record IsOver {P B : Type 0} (new old : ToSinks P B) : Type 0 where
  pub pages : new.pages.ghost_name ≡ old.pages.ghost_name
  pub back : new.back.ghost_name ≡ old.back.ghost_name

-- each sink that tells holds its old bytes followed by the pictures, or by the text
pub record WritesAll {P B : Type 0} (page_bytes : P → Option (List ℕ)) (back_bytes : B → Option (List ℕ)) (new old : ToSinks P B) (papers : List Sheet) (text : List ℕ) : Type 0 where
  pub over : IsOver new old
  pub pages : Appends (pictures papers) (page_bytes old.pages.now) (page_bytes new.pages.now)
  pub said : Appends text (back_bytes old.back.now) (back_bytes new.back.now)

-- followed by a front of the pictures' bytes, or of the text
pub record WritesFront {P B : Type 0} (page_bytes : P → Option (List ℕ)) (back_bytes : B → Option (List ℕ)) (new old : ToSinks P B) (papers : List Sheet) (text : List ℕ) : Type 0 where
  pub over : IsOver new old
  pub pages : AppendsFront (pictures papers) (page_bytes old.pages.now) (page_bytes new.pages.now)
  pub said : AppendsFront text (back_bytes old.back.now) (back_bytes new.back.now)
