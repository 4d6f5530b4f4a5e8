-- The operators of this crate.
use Rattle.std.specs.Prelude.{ℕ, Bool, ◌&&◌, nat_le, List, [], ◌∷◌}
use Rattle.ps_names.specs.declared.places.TheConstants as at
use Rattle.ps_kinds.specs.declared.state.State.{State}
use Rattle.ps_operator.specs.Tree.{Ask}
use Rattle.ps_operator.specs.Lawful.{IsLawfulIn}
use Rattle.ps_operator.specs.Operators.{Operators, run_in}
use Rattle.file_ops.specs.Files.{currentfile, status, bytesavailable, read_, to_end, flush}
use Rattle.file_ops.specs.Reading.{readstring, readhexstring, readline}
use Rattle.file_ops.specs.Tokens.{token}

-- all of them, in a section of this text
abbrev pub operators : List ℕ → Operators
operators text =
    (at.CURRENTFILE, currentfile) ∷ (at.STATUS, status)
    ∷ (at.BYTESAVAILABLE, bytesavailable text) ∷ (at.READ, read_ text)
    ∷ (at.READSTRING, readstring text) ∷ (at.READHEXSTRING, readhexstring text)
    ∷ (at.READLINE, readline text) ∷ (at.TOKEN, token text) ∷ (at.CLOSEFILE, to_end text)
    ∷ (at.FLUSHFILE, to_end text) ∷ (at.FLUSH, flush) ∷ []

-- they stand together in the list of operators
abbrev pub belongs : ℕ → Bool
belongs n = nat_le at.CURRENTFILE n && nat_le n at.FLUSH

-- what the operator at a place does in a section of this text
abbrev pub run : ℕ → List ℕ → State → Ask
run n text s = run_in (operators text) n s

-- each keeps the states that fit
abbrev pub OperatorsLaw : Type 0
OperatorsLaw = (n : ℕ) → IsLawfulIn (run n)
