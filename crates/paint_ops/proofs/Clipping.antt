-- One clip after another.
use Rattle.std.proofs.Common.{◌≡◌, ℕ, ◌+◌, ◌<◌, ◌≤◌, ◌&&◌, Bool, true, false, List, [], ◌∷◌, ◌++◌, length, take, get_or, refl, ap, sym, ◌∙◌, subst}
use Rattle.std.proofs.lemmas.List.{take_all}
use Rattle.std.proofs.lemmas.List.Folds.{list_all-append, list_all_more}
use Rattle.ps_shapes.specs.Span.{is_in, is_in_all}
use Rattle.ps_shapes.specs.declared.clip.Clip.{Clip}
use Rattle.ps_shapes.specs.declared.span.Span.{Span}
use Rattle.path_cover.specs.Adding.{HoldsExactly}
use Rattle.path_cover.specs.Cover.{covers}
use Rattle.paint_ops.specs.Covering.{HoldClips}
use Rattle.paint_ops.specs.Painting.{is_in_clips}

-- no clip lets all pixels through
pub no_clips : (width height : ℕ) (clips : List Clip) → HoldClips width height (take 0 clips) []
no_clips width height clips = λ x y p q. refl

and_true : (b : Bool) → (b && true) ≡ b
and_true true = refl
and_true false = refl

-- one clip more
pub one_clip_more : (width height : ℕ) (clips : List Clip) (i : ℕ) (clip : Clip) (lists : List (List Span)) (spans : List Span) → i < length clips → clip ≡ get_or clips i clip
    → HoldsExactly width height (covers clip.polygons clip.rule) spans → HoldClips width height (take i clips) lists → HoldClips width height (take (i + 1) clips) (lists ++ spans ∷ [])
one_clip_more width height clips i clip lists spans l e h g = λ x y p q.
    list_all-append (λ (s : List Span). is_in s x y) lists (spans ∷ [])
    ∙ ap (λ (b : Bool). is_in_all lists x y && b) (and_true (is_in spans x y) ∙ h x y p q)
    ∙ ap (λ (b : Bool). b && covers clip.polygons clip.rule x y) (g x y p q)
    ∙ ap (λ (c : Clip). is_in_clips (take i clips) x y && covers c.polygons c.rule x y) e
    ∙ sym (list_all_more (λ (c : Clip). covers c.polygons c.rule x y) clips i clip l)

-- all of them
pub all_clips : (width height : ℕ) (clips : List Clip) (i : ℕ) (lists : List (List Span)) → length clips ≤ i → HoldClips width height (take i clips) lists → HoldClips width height clips lists
all_clips width height clips i lists l h = subst (λ (cs : List Clip). HoldClips width height cs lists) (take_all i clips l) h
