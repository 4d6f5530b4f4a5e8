-- The marks of a job stand in order, and are no more than its bytes.
use Rattle.std.proofs.Common.{◌≡◌, ℕ, zero, suc, ◌+◌, ◌-◌, ◌<◌, ◌≤◌, List, [], ◌∷◌, ◌++◌, length, drop, arith, length-append, length-drop}
use Rattle.std.specs.Prelude.{Option, Some, None}
use Rattle.std.specs.Option.{option_to_list}
use Rattle.dsc_split.specs.declared.comment.Comment.{Comment}
use Rattle.dsc_split.specs.declared.comment.Comment.TheVariants as comment
use Rattle.dsc_split.specs.declared.mark.Mark.{Mark}
use Rattle.dsc_split.specs.Comments.{comment_of}
use Rattle.dsc_split.specs.Lines.{line_of, line_len, reach_of, lines_at}
use Rattle.dsc_split.specs.Marks.{mark_of, depth_after, marks_of, marks_from}
use Rattle.dsc_split.specs.declared.mark.Mark.TheVariants.{EndProlog, Page, Trailer}
use Rattle.dsc_split.specs.Sections.{prolog_end, part_end}
use Rattle.dsc_split.specs.Cuts.{place_of, IsOrdered}
use Rattle.dsc_split.proofs.LineLemmas.{line_len_le, line_len_pos}

-- a mark stands between its line's places
mark_ordered : (depth : ℕ) (kind : Option Comment) (place to from end : ℕ) (later : List Mark) → from ≤ place → place ≤ to
    → IsOrdered from end later → IsOrdered place end later → IsOrdered to end later
    → IsOrdered from end (option_to_list (mark_of depth kind place to) ++ later)
mark_ordered (suc depth) kind place to from end later h g here first last = here
mark_ordered zero None place to from end later h g here first last = here
mark_ordered zero (Some comment.EndProlog) place to from end later h g here first last = (omega arith, last)
mark_ordered zero (Some comment.Page) place to from end later h g here first last = (h, first)
mark_ordered zero (Some comment.Trailer) place to from end later h g here first last = (h, first)
mark_ordered zero (Some comment.BeginDocument) place to from end later h g here first last = here
mark_ordered zero (Some comment.EndDocument) place to from end later h g here first last = here
mark_ordered zero (Some comment.BeginData) place to from end later h g here first last = here
mark_ordered zero (Some comment.BeginBinary) place to from end later h g here first last = here

pub marks_ordered : (depth place passed from end : ℕ) (text : List ℕ) → end ≡ place + length text → from ≤ place + passed → from ≤ end
    → IsOrdered from end (marks_of depth (lines_at place passed text))
unfolding marks_of lines_at
marks_ordered depth place passed from end [] e h g = g
marks_ordered depth place (suc passed) from end (b ∷ rest) e h g = marks_ordered depth (place + 1) passed from end rest (omega arith) (omega arith) g
marks_ordered depth place zero from end (b ∷ rest) e h g =
    let text : List ℕ = b ∷ rest in
    let kind = comment_of (line_of text) in
    let to : ℕ = place + line_len text in
    let fits : line_len text ≤ length text = line_len_le text in
    let some : 0 < line_len text = line_len_pos text (omega arith) in
    let later : (k : ℕ) → k ≤ to → k ≤ end → IsOrdered k end (marks_of (depth_after depth kind) (lines_at (place + 1) (reach_of text - 1) rest)) =
    λ k low high. marks_ordered (depth_after depth kind) (place + 1) (reach_of text - 1) k end rest (omega arith) (omega arith) high
    in
    mark_ordered depth kind place to from end _ (omega arith) (omega arith) (later from (omega arith) g) (later place (omega arith) (omega arith)) (later to (omega arith) (omega arith))

one_mark : (mark : Option Mark) → length (option_to_list mark) ≤ 1
one_mark None = omega arith
one_mark (Some mark) = omega arith

marks_few : (depth place passed : ℕ) (text : List ℕ) → length (marks_of depth (lines_at place passed text)) ≤ length text
unfolding marks_of lines_at
marks_few depth place passed [] = omega arith
marks_few depth place (suc passed) (b ∷ rest) = omega (arith, marks_few depth (place + 1) passed rest)
marks_few depth place zero (b ∷ rest) =
    let text : List ℕ = b ∷ rest in
    let kind = comment_of (line_of text) in
    let first = option_to_list (mark_of depth kind place (place + line_len text)) in
    let later = marks_of (depth_after depth kind) (lines_at (place + 1) (reach_of text - 1) rest) in
    omega (arith, length-append first later, one_mark (mark_of depth kind place (place + line_len text)), marks_few (depth_after depth kind) (place + 1) (reach_of text - 1) rest)

pub marks_from_ordered : (depth at : ℕ) (job : List ℕ) → at ≤ length job → IsOrdered at (length job) (marks_from depth at job)
marks_from_ordered depth at job h =
    marks_ordered depth at 0 at (length job) (drop at job) (omega (arith, length-drop at job)) (omega arith) h

pub marks_from_few : (depth at : ℕ) (job : List ℕ) → length (marks_from depth at job) ≤ length job
marks_from_few depth at job = omega (arith, marks_few depth at 0 (drop at job), length-drop at job)

-- from an earlier place the same marks are in order
pub ordered_before : (earlier from end : ℕ) (marks : List Mark) → earlier ≤ from → IsOrdered from end marks → IsOrdered earlier end marks
ordered_before earlier from end [] h o = omega arith
ordered_before earlier from end (mark ∷ marks) h o = (omega (arith, o.0), o.1)

-- what comes before marks in order stands before the end, and before the next part
pub ordered_end : (from end : ℕ) (marks : List Mark) → IsOrdered from end marks → from ≤ end
ordered_end from end [] o = o
ordered_end from end (mark ∷ marks) o = omega (arith, o.0, ordered_end (place_of mark) end marks o.1)

pub part_bounds : (from end : ℕ) (marks : List Mark) → IsOrdered from end marks → (from ≤ part_end end marks) × (part_end end marks ≤ end)
part_bounds from end [] o = (o, omega arith)
part_bounds from end (EndProlog to ∷ marks) o = let later = part_bounds to end marks o.1 in (omega (arith, o.0, later.0), later.1)
part_bounds from end (Page at ∷ marks) o = (o.0, ordered_end at end marks o.1)
part_bounds from end (Trailer at ∷ marks) o = (o.0, ordered_end at end marks o.1)

pub prolog_bounds : (start end : ℕ) (marks : List Mark) → IsOrdered start end marks → (start ≤ prolog_end end marks) × (prolog_end end marks ≤ part_end end marks)
prolog_bounds start end [] o = (o, omega arith)
prolog_bounds start end (EndProlog to ∷ marks) o = (o.0, (part_bounds to end marks o.1).0)
prolog_bounds start end (Page at ∷ marks) o = (o.0, omega arith)
prolog_bounds start end (Trailer at ∷ marks) o = (o.0, omega arith)
