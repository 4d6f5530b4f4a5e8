-- A text that grew by pieces in turn grew by all of them.
use Rattle.std.proofs.Common.{◌≡◌, ℕ, ◌+◌, ◌-◌, ◌<◌, ◌≤◌, true, false, List, [], ◌∷◌, ◌++◌, length, take, ap, sym, ◌∙◌, append-nil, append_assoc, length-append, arith}
use Rattle.std.specs.Prelude.{flat_map, slice_index_or}
use Rattle.std.proofs.lemmas.Bool.{le-leb}
use Rattle.std.proofs.lemmas.Bool.Decides.{nat_tests}
use Rattle.std.proofs.lemmas.Grind.{flat_map-append}
use Rattle.std.proofs.lemmas.List.{take_more}
use Rattle.dsc_split.specs.declared.section.Section.{Section}
use Rattle.rip_run.specs.Texts.{section_line}

pub two_pieces : (t a b x y : List ℕ) → x ≡ t ++ a → y ≡ x ++ b → y ≡ t ++ (a ++ b)
two_pieces t a b x y p q = q ∙ ap (λ s. s ++ b) p ∙ append_assoc t a b

pub three_pieces : (t a b c x y z : List ℕ) → x ≡ t ++ a → y ≡ x ++ b → z ≡ y ++ c → z ≡ t ++ (a ++ b ++ c)
three_pieces t a b c x y z p q r = two_pieces t (a ++ b) c y z (two_pieces t a b x y p q) r

-- one more section was listed
pub listed : (sections : List Section) (k : ℕ) (section : Section) (text line after : List ℕ) →
    k < length sections → section ≡ slice_index_or sections k section → text ≡ flat_map section_line (take k sections) →
    line ≡ section_line section → after ≡ text ++ line → after ≡ flat_map section_line (take (k + 1) sections)
listed sections k section text line after h i t l a =
    a ∙ ap (λ s. s ++ line) t
    ∙ ap (λ m. flat_map section_line (take k sections) ++ m) (l ∙ ap section_line i ∙ sym (append-nil (section_line (slice_index_or sections k section))))
    ∙ sym (flat_map-append section_line (take k sections) (slice_index_or sections k section ∷ []))
    ∙ ap (flat_map section_line) (sym (take_more sections k section h))
