-- The lines that cut a job into sections: those outside of inner documents that are one of three comments.
use Rattle.std.specs.Prelude.{ℕ, zero, ◌+◌, ◌-◌, List, [], ◌∷◌, ◌++◌, drop, Option, Some, None}
use Rattle.std.specs.Option.{option_to_list}
use Rattle.dsc_split.specs.declared.comment.Comment.{Comment}
use Rattle.dsc_split.specs.declared.comment.Comment.TheVariants as comment
use Rattle.dsc_split.specs.declared.mark.Mark.{Mark}
use Rattle.dsc_split.specs.declared.mark.Mark.TheVariants as mark
use Rattle.dsc_split.specs.Lines.{Line, lines_at}

-- `%%BeginDocument:` opens an inner document and `%%EndDocument` closes one; these nest.
-- `%%EndDocument` with none open does nothing.
abbrev pub depth_after : ℕ → Option Comment → ℕ
depth_after depth (Some comment.BeginDocument) = depth + 1
depth_after depth (Some comment.EndDocument) = depth - 1
depth_after depth _ = depth

-- the mark that a line is, where so many inner documents are open: inside of them none counts
abbrev pub mark_of : ℕ → Option Comment → ℕ → ℕ → Option Mark
mark_of zero (Some comment.EndProlog) from to = Some (mark.EndProlog to)
mark_of zero (Some comment.Page) from to = Some (mark.Page from)
mark_of zero (Some comment.Trailer) from to = Some (mark.Trailer from)
mark_of _ _ from to = None

-- the marks of lines, where so many inner documents are open before them
unfoldable pub marks_of : ℕ → List Line → List Mark
marks_of depth [] = []
marks_of depth (line ∷ lines) =
    option_to_list (mark_of depth line.comment line.from line.to) ++ marks_of (depth_after depth line.comment) lines

-- the marks of a job from a line on, where so many inner documents are open before it
abbrev pub marks_from : ℕ → ℕ → List ℕ → List Mark
marks_from depth at job = marks_of depth (lines_at at 0 (drop at job))
