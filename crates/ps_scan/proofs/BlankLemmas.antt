-- How many bytes are blank, from a place on.
use Rattle.std.proofs.Common.{◌≡◌, ℕ, ◌+◌, ◌<◌, ◌≤◌, Bool, true, false, ◌||◌, cond, eqb, List, length, get_or, drop}
use Rattle.std.proofs.lemmas.List.{at_drop_more, at_drop_all}
use Rattle.ps_scan.specs.Characters.{is_white, is_line_end, blanks}

-- what the byte at a place adds
pub blanks_at : (in_comment : Bool) (text : List ℕ) (i : ℕ) → i < length text →
    blanks in_comment (drop i text) ≡ cond (is_line_end (get_or text i 0)) (1 + blanks false (drop (i + 1) text))
    (cond (in_comment || eqb (get_or text i 0) 37) (1 + blanks true (drop (i + 1) text))
    (cond (is_white (get_or text i 0)) (1 + blanks false (drop (i + 1) text)) 0))
unfolding blanks
blanks_at in_comment text i h = at_drop_more (blanks in_comment) text i 0 h

pub blanks_at_end : (in_comment : Bool) (text : List ℕ) (i : ℕ) → length text ≤ i → blanks in_comment (drop i text) ≡ 0
unfolding blanks
blanks_at_end in_comment text i h = at_drop_all (blanks in_comment) text i h
