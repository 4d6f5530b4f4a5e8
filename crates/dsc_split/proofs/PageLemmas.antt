-- Each page stands where its `%%Page:` line begins.
use Rattle.std.proofs.Common.{◌≡◌, ℕ, zero, suc, ◌+◌, ◌-◌, ◌<◌, ◌≤◌, Bool, true, false, List, [], ◌∷◌, ◌++◌, length, take, drop, refl, sym, ap, ◌∙◌, arith, length-drop, length-take, append_assoc}
use Rattle.std.specs.Prelude.{Option, Some, None, nat_eq, codes, ◌&&◌, if◌then◌else◌}
use Rattle.std.specs.Option.{option_to_list}
use Rattle.std.specs.List.{starts_with}
use Rattle.std.proofs.lemmas.List.{take-take, take-append-drop, drop-take, drop-drop}
use Rattle.std.proofs.lemmas.Bool.Decides.{Decides-eqb}
use Rattle.std.proofs.lemmas.Slice.Eq.{starts_is}
use Rattle.dsc_split.specs.declared.comment.Comment.{Comment}
use Rattle.dsc_split.specs.declared.comment.Comment.TheVariants as comment
use Rattle.dsc_split.specs.declared.mark.Mark.{Mark}
use Rattle.dsc_split.specs.declared.mark.Mark.TheVariants.{EndProlog, Page, Trailer}
use Rattle.dsc_split.specs.Comments.{is_comment, comment_of}
use Rattle.dsc_split.specs.Lines.{line_of, line_len, reach_of, lines_at}
use Rattle.dsc_split.specs.Marks.{mark_of, depth_after, marks_of, marks_from}
use Rattle.dsc_split.specs.Sections.{part_end}
use Rattle.dsc_split.proofs.LineLemmas.{line_len_le, line_len_pos, length-line_of}
use Rattle.dsc_split.proofs.OrderLemmas.{marks_ordered, part_bounds}
use Rattle.dsc_split.proofs.PieceLemmas.{piece}

abbrev pub page_name : List ℕ
page_name = codes "%%Page:"

-- the bytes up to the next page, the trailer or the end begin as a page
abbrev pub BeginsPage : List ℕ → ℕ → ℕ → List Mark → Type 0
BeginsPage job from end marks = starts_with nat_eq (piece job from (part_end end marks)) page_name ≡ true

-- so does each page among marks
abbrev pub PagesBegin : List ℕ → ℕ → List Mark → Type 0
PagesBegin job end [] = Unit {0}
PagesBegin job end (EndProlog _ ∷ marks) = PagesBegin job end marks
PagesBegin job end (Page from ∷ marks) = BeginsPage job from end marks × PagesBegin job end marks
PagesBegin job end (Trailer _ ∷ marks) = PagesBegin job end marks

and_left : (x y : Bool) → (x && y) ≡ true → x ≡ true
and_left true y h = refl
and_left false y h = h

second_test : (b1 b2 b3 b4 b5 b6 b7 : Bool)
    → (if b1 then Some comment.EndProlog else if b2 then Some comment.Page else if b3 then Some comment.Trailer else if b4 then Some comment.BeginDocument
    else if b5 then Some comment.EndDocument else if b6 then Some comment.BeginData else if b7 then Some comment.BeginBinary else None) ≡ Some comment.Page
    → b2 ≡ true
second_test true b2 b3 b4 b5 b6 b7 h = cc
second_test false true b3 b4 b5 b6 b7 h = refl
second_test false false true b4 b5 b6 b7 h = cc
second_test false false false true b5 b6 b7 h = cc
second_test false false false false true b6 b7 h = cc
second_test false false false false false true b7 h = cc
second_test false false false false false false true h = cc
second_test false false false false false false false h = cc

-- a line that is the comment begins with its name
page_named : (line : List ℕ) → comment_of line ≡ Some comment.Page → starts_with nat_eq line page_name ≡ true
page_named line h = and_left _ _ (second_test
    (is_comment (codes "%%EndProlog") line) (is_comment (codes "%%Page:") line) (is_comment (codes "%%Trailer") line) (is_comment (codes "%%BeginDocument:") line)
    (is_comment (codes "%%EndDocument") line) (is_comment (codes "%%BeginData:") line) (is_comment (codes "%%BeginBinary:") line) h)

-- what begins with a line begins as the line does
begins_with : (line text : List ℕ) (n : ℕ) → line ≡ take n text → starts_with nat_eq line page_name ≡ true → starts_with nat_eq text page_name ≡ true
begins_with line text n e h =
    let of_line : line ≡ page_name ++ drop 7 line = (starts_is Decides-eqb line page_name (starts_with nat_eq line page_name) refl).0 h in
    let whole : text ≡ page_name ++ (drop 7 line ++ drop n text) =
    sym (take-append-drop n text) ∙ ap (λ x. x ++ drop n text) (sym e ∙ of_line) ∙ append_assoc page_name (drop 7 line) (drop n text)
    in
    (starts_is Decides-eqb text page_name (starts_with nat_eq text page_name) refl).1 (drop 7 line ++ drop n text) whole

-- a page's line stands at the head of its piece
page_begins : (job text : List ℕ) (place end to : ℕ) → text ≡ take (end - place) (drop place job) → place + line_len text ≤ to → to ≤ end
    → comment_of (line_of text) ≡ Some comment.Page → starts_with nat_eq (piece job place to) page_name ≡ true
page_begins job text place end to t h g c =
    let n = length (line_of text) in
    let cut : line_of text ≡ take n text = ap (λ k. take k text) (sym (length-line_of text)) in
    let line_is : line_of text ≡ take n (piece job place to) =
    cut ∙ ap (take n) t ∙ take-take n (end - place) (drop place job) (omega arith) ∙ sym (take-take n (to - place) (drop place job) (omega arith))
    in
    begins_with (line_of text) (piece job place to) n line_is (page_named (line_of text) c)

-- the text a byte further
tail_is : (job rest : List ℕ) (b place end : ℕ) → b ∷ rest ≡ take (end - place) (drop place job) → place < end
    → rest ≡ take (end - (place + 1)) (drop (place + 1) job)
tail_is job rest b place end t h =
    let behind = drop place job in
    let count : end - place ≡ 1 + (end - (place + 1)) = omega arith in
    ap (drop 1) t ∙ ap (λ k. drop 1 (take k behind)) count ∙ drop-take 1 (end - (place + 1)) behind ∙ ap (take (end - (place + 1))) (drop-drop 1 place job)

mark_begins : (job : List ℕ) (depth : ℕ) (kind : Option Comment) (place to end : ℕ) (later : List Mark)
    → (kind ≡ Some comment.Page → BeginsPage job place end later) → PagesBegin job end later
    → PagesBegin job end (option_to_list (mark_of depth kind place to) ++ later)
mark_begins job (suc depth) kind place to end later h others = others
mark_begins job zero None place to end later h others = others
mark_begins job zero (Some comment.EndProlog) place to end later h others = others
mark_begins job zero (Some comment.Page) place to end later h others = (h refl, others)
mark_begins job zero (Some comment.Trailer) place to end later h others = others
mark_begins job zero (Some comment.BeginDocument) place to end later h others = others
mark_begins job zero (Some comment.EndDocument) place to end later h others = others
mark_begins job zero (Some comment.BeginData) place to end later h others = others
mark_begins job zero (Some comment.BeginBinary) place to end later h others = others

pages_begin_at : (job : List ℕ) (depth place passed end : ℕ) (text : List ℕ) → text ≡ take (end - place) (drop place job) → end ≡ place + length text
    → PagesBegin job end (marks_of depth (lines_at place passed text))
unfolding marks_of lines_at
pages_begin_at job depth place passed end [] t e = tt
pages_begin_at job depth place (suc passed) end (b ∷ rest) t e =
    pages_begin_at job depth (place + 1) passed end rest (tail_is job rest b place end t (omega arith)) (omega arith)
pages_begin_at job depth place zero end (b ∷ rest) t e =
    let text : List ℕ = b ∷ rest in
    let kind = comment_of (line_of text) in
    let to : ℕ = place + line_len text in
    let fits : line_len text ≤ length text = line_len_le text in
    let some : 0 < line_len text = line_len_pos text (omega arith) in
    let later = marks_of (depth_after depth kind) (lines_at (place + 1) (reach_of text - 1) rest) in
    let bounds = part_bounds to end later (marks_ordered (depth_after depth kind) (place + 1) (reach_of text - 1) to end rest (omega arith) (omega arith) (omega arith)) in
    mark_begins job depth kind place to end later
    (λ page. page_begins job text place end (part_end end later) t bounds.0 bounds.1 page)
    (pages_begin_at job (depth_after depth kind) (place + 1) (reach_of text - 1) end rest (tail_is job rest b place end t (omega arith)) (omega arith))

pub pages_begin : (job : List ℕ) (depth at end : ℕ) → at ≤ end → end ≤ length job → PagesBegin job end (marks_from depth at (take end job))
pages_begin job depth at end h g =
    let count : end ≡ at + (end - at) = omega arith in
    let text : List ℕ = drop at (take end job) in
    let text_is : text ≡ take (end - at) (drop at job) = ap (λ k. drop at (take k job)) count ∙ drop-take at (end - at) job in
    pages_begin_at job depth at 0 end text text_is (omega (arith, length-drop at (take end job), length-take end job))
