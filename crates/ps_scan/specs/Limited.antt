-- Strings that are read up to a limit.
use Rattle.std.specs.Prelude.{◌≡◌, ℕ, List, length, take, Option, Some, None}
use Rattle.ps_scan.specs.Strings.{string_limit}
use Rattle.ps_scan.specs.declared.strings.Limited.{Limited}
use Rattle.ps_scan.specs.declared.strings.Body.{Body}

-- these are the bytes: the text has those up to the limit
pub record Keeps (limited : Limited) (bytes : List ℕ) : Type 0 where
  pub text : limited.text ≡ take string_limit bytes
  pub length : limited.length ≡ length bytes

-- what was read is what stands there
abbrev pub IsBody : Option Body → Option (List ℕ × ℕ) → Type 0
IsBody None body = body ≡ None
IsBody (Some found) body = (bytes : List ℕ) × (Keeps found.limited bytes × (body ≡ Some (bytes, found.taken)))
