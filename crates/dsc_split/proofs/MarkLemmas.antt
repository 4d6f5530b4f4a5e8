-- How the marks of a job follow one another.
use Rattle.std.proofs.Common.{◌≡◌, ℕ, ◌+◌, ◌<◌, ◌≤◌, List, [], ◌++◌, length, drop, min, sym, ap, ◌∙◌, arith, length-drop}
use Rattle.std.specs.Prelude.{Option}
use Rattle.std.specs.Option.{option_to_list}
use Rattle.dsc_split.specs.declared.comment.Comment.{Comment}
use Rattle.dsc_split.specs.declared.mark.Mark.{Mark}
use Rattle.std.proofs.lemmas.List.{drop-drop, drop_all}
use Rattle.dsc_split.specs.Comments.{comment_of}
use Rattle.dsc_split.specs.Lines.{line_of, line_len, data_len, lines_at}
use Rattle.dsc_split.specs.Marks.{mark_of, depth_after, marks_of, marks_from}
use Rattle.dsc_split.proofs.LineLemmas.{lines_step}

pub marks_end : (depth at : ℕ) (job : List ℕ) → length job ≤ at → marks_from depth at job ≡ []
unfolding marks_of lines_at
marks_end depth at job h = ap (λ text. marks_of depth (lines_at at 0 text)) (drop_all at job h)

marks_after : (depth at len : ℕ) (job text : List ℕ) → text ≡ drop at job → at < length job
    → len ≡ line_len text + min (data_len (comment_of (line_of text)) (line_of text) (drop (line_len text) text)) (length (drop (line_len text) text))
    → marks_from depth at job
    ≡ option_to_list (mark_of depth (comment_of (line_of text)) at (at + line_len text)) ++ marks_from (depth_after depth (comment_of (line_of text))) (at + len) job
unfolding marks_of
marks_after depth at len job text t h e =
    let comment = comment_of (line_of text) in
    let some : 0 < length text = omega (arith, ap length t, length-drop at job) in
    let behind : drop len text ≡ drop (at + len) job = ap (drop len) t ∙ drop-drop len at job in
    ap (λ rest. marks_of depth (lines_at at 0 rest)) (sym t)
    ∙ ap (marks_of depth) (lines_step at len text some e)
    ∙ ap (λ rest. option_to_list (mark_of depth comment at (at + line_len text)) ++ marks_of (depth_after depth comment) (lines_at (at + len) 0 rest)) behind

pub marks_step : (depth at len passed deeper : ℕ) (job text line after : List ℕ) (comment : Option Comment) (mark : Option Mark)
    → at < length job → text ≡ drop at job → line ≡ line_of text → len ≡ line_len text → after ≡ drop len text → comment ≡ comment_of line
    → passed ≡ min (data_len comment line after) (length after) → mark ≡ mark_of depth comment at (at + len) → deeper ≡ depth_after depth comment
    → marks_from depth at job ≡ option_to_list mark ++ marks_from deeper (at + len + passed) job
marks_step depth at len passed deeper job text line after comment mark h t l n a c p m d =
    let comment_is : comment ≡ comment_of (line_of text) = c ∙ ap comment_of l in
    let after_is : after ≡ drop (line_len text) text = a ∙ ap (λ k. drop k text) n in
    let passed_is : passed ≡ min (data_len (comment_of (line_of text)) (line_of text) (drop (line_len text) text)) (length (drop (line_len text) text)) =
    p ∙ ap (λ k. min (data_len k line after) (length after)) comment_is
    ∙ ap (λ k. min (data_len (comment_of (line_of text)) k after) (length after)) l
    ∙ ap (λ k. min (data_len (comment_of (line_of text)) (line_of text) k) (length k)) after_is
    in
    let mark_is : mark_of depth (comment_of (line_of text)) at (at + line_len text) ≡ mark =
    sym (m ∙ ap (λ k. mark_of depth k at (at + len)) comment_is ∙ ap (λ k. mark_of depth (comment_of (line_of text)) at (at + k)) n)
    in
    let deeper_is : depth_after depth (comment_of (line_of text)) ≡ deeper = sym (d ∙ ap (depth_after depth) comment_is) in
    let place : at + (len + passed) ≡ at + len + passed = omega arith in
    marks_after depth at (len + passed) job text t h (omega (arith, n, passed_is))
    ∙ ap (λ k. option_to_list k ++ marks_from (depth_after depth (comment_of (line_of text))) (at + (len + passed)) job) mark_is
    ∙ ap (λ k. option_to_list mark ++ marks_from k (at + (len + passed)) job) deeper_is
    ∙ ap (λ k. option_to_list mark ++ marks_from deeper k job) place
