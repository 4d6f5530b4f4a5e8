-- Which lines are no comments.
use Rattle.std.proofs.Common.{◌≡◌, ◌∷◌, [], List, ℕ, false, refl, sym, ◌∙◌}
use Rattle.std.specs.Prelude.{None, nat_eq}
use Rattle.std.specs.List.{starts_with}
use Rattle.std.proofs.Math.Bool.{and-true}
use Rattle.dsc_split.specs.Comments.{comment_of}

-- each comment begins with a percent sign
pub other_line : (line : List ℕ) → starts_with nat_eq line (37 ∷ []) ≡ false → comment_of line ≡ None
other_line [] h = refl
other_line (x ∷ xs) h = let other : nat_eq 37 x ≡ false = sym (and-true _) ∙ h in rw other refl
