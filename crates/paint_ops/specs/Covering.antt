-- Spans that hold what clips let through.
use Rattle.std.specs.Prelude.{◌≡◌, ℕ, ◌<◌, List}
use Rattle.ps_shapes.specs.Span.{is_in_all, IsOnPaper}
use Rattle.ps_shapes.specs.declared.clip.Clip.{Clip}
use Rattle.ps_shapes.specs.declared.span.Span.{Span}
use Rattle.ps_memory.specs.Memory.{Page, here, out}
use Rattle.std.specs.Bool.{⊤}
use Rattle.paint_ops.specs.Painting.{is_in_clips}

-- on a paper of this size all lists together hold the pixels inside every clip, and no others
abbrev pub HoldClips : (width height : ℕ) → List Clip → List (List Span) → Type 0
HoldClips width height clips lists =
    (x y : ℕ) → x < width → y < height → is_in_all lists x y ≡ is_in_clips clips x y

-- spans lie on the paper that is here
abbrev pub LieOn : Page → List Span → Type 0
LieOn (here p) spans = IsOnPaper p.width p.height spans
LieOn (out w h) spans = ⊤
