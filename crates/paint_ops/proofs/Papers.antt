-- The paper that is lifted, painted and laid, and what that is in a tree.
use Rattle.std.proofs.Common.{◌≡◌, ℕ, ◌<◌, ◌&&◌, Bool, true, false, cond, List, [], ◌∷◌, refl, ap, sym, ◌∙◌, subst, true≢false}
use Rattle.ps_shapes.specs.Sheet.{Sheet, pixel}
use Rattle.ps_shapes.specs.Screen.{Screen}
use Rattle.ps_shapes.specs.Span.{is_in_all, IsOnPaper}
use Rattle.ps_shapes.specs.declared.polygon.Point.{Point}
use Rattle.ps_shapes.specs.declared.polygon.Rule.{Rule}
use Rattle.ps_shapes.specs.declared.span.Span.{Span}
use Rattle.ps_shapes.specs.declared.numbers.Real.{Real}
use Rattle.ps_shapes.proofs.Drawn.{drawn_same}
use Rattle.path_cover.specs.Adding.{HoldsExactly}
use Rattle.path_cover.specs.Cover.{covers}
use Rattle.ps_paper.specs.Ink.{ink_of, painted, clipped}
use Rattle.ps_objects.specs.declared.place.Loc.TheVariants as loc
use Rattle.ps_objects.specs.declared.place.Value.TheVariants as value
use Rattle.ps_kinds.specs.declared.act.Act.TheVariants as act
use Rattle.ps_kinds.specs.declared.frame.Frame.{Frame}
use Rattle.ps_kinds.specs.declared.state.State.{State}
use Rattle.ps_memory.specs.Memory.{Page, here, out, store, value_found, page_found}
use Rattle.ps_memory.specs.Tree.{done, lays}
use Rattle.ps_meaning.specs.Answer.{Log, looked_in, acted_in, lifted_in, answer_over, state_done}
use Rattle.ps_meaning.specs.Ready.{Ready}
use Rattle.ps_meaning.specs.Sound.{Size, size_of}
use Rattle.ps_meaning.specs.Registers.{size_of_page}
use Rattle.ps_meaning.proofs.Looks.{laying_law}
use Rattle.vm_mem.specs.Conditions.{is_here, MayLay}
use Rattle.vm_mem.proofs.Conditions.{here_now, may_lay}
use Rattle.ps_operator.specs.Registers.{quiet}
use Rattle.ps_operator.proofs.Standing.{page_stands}
use Rattle.colour_ops.specs.Colours.{gray_of}
use Rattle.paint_ops.specs.Covering.{HoldClips, LieOn}
use Rattle.paint_ops.specs.Measuring.{is_measured}
use Rattle.paint_ops.specs.Painting.{is_painted, painted_on, paints, painted_in}
use Rattle.paint_ops.specs.Papers.{paper_then, repaints, relaid, repainted_in}

-- ---- lifting, painting and laying

-- spans that lie on the paper that is here lie on the paper that was lifted
pub lies_on : (page : Page) (spans : List Span) (p : Sheet) → LieOn page spans → page ≡ here p → IsOnPaper p.width p.height spans
lies_on page spans p h e = subst (λ (q : Page). LieOn q spans) e h

-- painted paper has the size of the paper that was lifted
pub may_lay_painted : (old new : Log) (p q : Sheet) (test : ℕ → ℕ → Bool) (gray : Real) (thresholds : Screen)
    → old.view.page ≡ here p → new ≡ lifted_in old → q ≡ painted p test gray.count thresholds → MayLay new.view q
may_lay_painted old new p q test gray thresholds h e f = may_lay old new p q h e (ap (λ (s : Sheet). s.width) f) (ap (λ (s : Sheet). s.height) f)

-- paper that was laid is what a change made of the paper that was lifted
pub is_repainted : (change : Sheet → Sheet) (old lifted new : Log) (p q : Sheet)
    → old.view.page ≡ here p → lifted ≡ lifted_in old → q ≡ change p → new ≡ acted_in lifted (store loc.Paper (value.Paper q)) → new ≡ repainted_in change old
unfolding repainted_in
is_repainted change old lifted new p q h e f g =
    g
    ∙ ap (λ (l : Log). acted_in l (store loc.Paper (value.Paper q))) e
    ∙ ap (λ (s : Sheet). acted_in (lifted_in old) (store loc.Paper (value.Paper s))) f
    ∙ laying_law old (change p)
    ∙ sym (ap (λ (page : Page). relaid change page old) h)

-- ---- on the page of a sound state

module _ (s : State) (log : Log) (r : Ready s log.view) where
  -- the paper has the size that the graphics state says
  sized : (page : Page) → log.view.page ≡ page → size_of_page page ≡ record { width = s.regs.state.wide; height = s.regs.state.high }
  sized page e = ap size_of_page (sym e) ∙ r.state.registers.size

  pub spans_lie : (spans : List Span) → IsOnPaper s.regs.state.wide s.regs.state.high spans → LieOn log.view.page spans
  spans_lie spans h = go log.view.page (sized log.view.page refl)
    where
      go : (page : Page) → size_of_page page ≡ record { width = s.regs.state.wide; height = s.regs.state.high } → LieOn page spans
      go (here p) e =
          subst (λ (z : Size). IsOnPaper z.width z.height spans) (sym e) h
      go (out w h) e = tt

  -- pixels by spans, and pixels each alone
  module _ (rule : Rule) (polygons : List (List Point)) (spans : List Span) (lists : List (List Span)) where
    as_said : HoldsExactly s.regs.state.wide s.regs.state.high (covers polygons rule) spans → HoldClips s.regs.state.wide s.regs.state.high s.regs.state.clips lists
        → (p : Sheet) → size_of p ≡ record { width = s.regs.state.wide; height = s.regs.state.high }
        → (gray : Real) (thresholds : Screen) → painted p (clipped spans lists) gray.count thresholds ≡ painted p (is_painted s.regs.state rule polygons) gray.count thresholds
    as_said h g p e gray thresholds =
        drawn_same p.width p.height _ _ (λ x y i j.
        let i' : x < s.regs.state.wide = subst (λ (z : Size). x < z.width) e i in
        let j' : y < s.regs.state.high = subst (λ (z : Size). y < z.height) e j in
        ap (λ (b : Bool). cond b (ink_of gray.count thresholds x y) (pixel p x y))
        (ap (λ (b : Bool). b && is_in_all lists x y) (h x y i' j') ∙ ap (λ (b : Bool). covers polygons rule x y && b) (g x y i' j')))

pub not_painted : (s : State) (rule : Rule) (polygons : List (List Point)) (log : Log) → is_measured s.frames ≡ true → log ≡ painted_in s rule polygons log
unfolding painted_in
not_painted s rule polygons log e = sym (ap (λ (b : Bool). cond b log (repainted_in (painted_on s.regs.state rule polygons) log)) e)

pub is_painted_so : (s : State) (rule : Rule) (polygons : List (List Point)) (spans : List Span) (lists : List (List Span)) (gray : Real) (width height : ℕ) (old new : Log)
    → Ready s old.view → is_measured s.frames ≡ false → width ≡ s.regs.state.wide → height ≡ s.regs.state.high
    → HoldsExactly width height (covers polygons rule) spans → HoldClips width height s.regs.state.clips lists → gray ≡ gray_of s.regs.state.colour
    → new ≡ repainted_in (λ p. painted p (clipped spans lists) gray.count s.regs.state.thresholds) old → new ≡ painted_in s rule polygons old
unfolding painted_in repainted_in
is_painted_so s rule polygons spans lists gray width height old new r m wide high h g a e =
    e
    ∙ go old.view.page (sized s old r old.view.page refl)
    ∙ sym (ap (λ (b : Bool). cond b old (relaid (painted_on s.regs.state rule polygons) old.view.page old)) m)
  where
    exact : HoldsExactly s.regs.state.wide s.regs.state.high (covers polygons rule) spans
    exact = subst (λ w. HoldsExactly w s.regs.state.high (covers polygons rule) spans) wide (subst (λ v. HoldsExactly width v (covers polygons rule) spans) high h)

    clips : HoldClips s.regs.state.wide s.regs.state.high s.regs.state.clips lists
    clips = subst (λ w. HoldClips w s.regs.state.high s.regs.state.clips lists) wide (subst (λ v. HoldClips width v s.regs.state.clips lists) high g)

    go : (page : Page) → size_of_page page ≡ record { width = s.regs.state.wide; height = s.regs.state.high }
        → relaid (λ p. painted p (clipped spans lists) gray.count s.regs.state.thresholds) page old ≡ relaid (painted_on s.regs.state rule polygons) page old
    go (here p) z =
        ap (λ (q : Sheet). acted_in (looked_in old loc.Paper) (store loc.Paper (value.Paper q)))
        (as_said s old r rule polygons spans lists exact clips p z gray s.regs.state.thresholds
        ∙ ap (λ (c : Real). painted p (is_painted s.regs.state rule polygons) c.count s.regs.state.thresholds) a)
    go (out w v) z = refl

-- ---- what that is in a tree

repaints_over : (below : List Frame) (change : Sheet → Sheet) (s after : State) (log : Log) (page : Page) → is_here page ≡ true
    → answer_over below (paper_then (λ p. done (lays (change p) ∷ []) (quiet after)) (value_found (page_found page))) s (looked_in log loc.Paper)
    ≡ record { act = act.Done; state = state_done 0 below s (quiet after); log = relaid change page log }
repaints_over below change s after log (here p) h = refl
repaints_over below change s after log (out w v) h = absurd (true≢false (sym h))

pub paints_so : (s after : State) (rule : Rule) (polygons : List (List Point)) (old new : Log) → Ready s old.view → new ≡ painted_in s rule polygons old
    → answer_over s.frames (paints s rule polygons after) s old ≡ record { act = act.Done; state = state_done 0 s.frames s (quiet after); log = new }
unfolding paints painted_in repainted_in
paints_so s after rule polygons old new r e =
    go (is_measured s.frames)
    ∙ ap (λ (l : Log). record { act = act.Done; state = state_done 0 s.frames s (quiet after); log = l }) (sym e)
  where
    change : Sheet → Sheet
    change = painted_on s.regs.state rule polygons

    go : (b : Bool) → answer_over s.frames (cond b (done [] (quiet after)) (repaints change after)) s old
        ≡ record { act = act.Done; state = state_done 0 s.frames s (quiet after); log = cond b old (relaid change old.view.page old) }
    go true = refl
    go false = repaints_over s.frames change s after old old.view.page (here_now old.view (page_stands s old.view r))
