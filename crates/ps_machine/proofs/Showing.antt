-- A page that is given out.
use Rattle.std.proofs.Common.{◌≡◌, ℕ, Bool, true, false, List, [], ◌∷◌, refl, sym, ap, ◌∙◌}
use Rattle.ps_shapes.specs.Sheet.{Sheet}
use Rattle.ps_objects.specs.declared.place.Loc.TheVariants as loc
use Rattle.ps_objects.specs.declared.place.Value.TheVariants as value
use Rattle.ps_kinds.specs.declared.state.State.{State}
use Rattle.ps_memory.specs.Memory.{Memory, Output, picture, value_at, value_found, page_found, here, store}
use Rattle.ps_memory.specs.Tree.{ends}
use Rattle.ps_meaning.specs.Answer.{Log, looked_in, acted_in, lifted_in}
use Rattle.ps_meaning.proofs.Looks.{laying_law}
use Rattle.ps_execution.specs.Execution.{sheet_in, shows}
use Rattle.ps_execution.specs.Machine.{Move, goes}
use Rattle.ps_execution.specs.Reached.{reached, came}
use Rattle.vm_mem.specs.Acts.{wiping}
use Rattle.vm_mem.specs.Conditions.{MayLay}
use Rattle.vm_mem.proofs.Conditions.{may_lay}
use Rattle.ps_machine.specs.Runs.{given, shown}
use Rattle.ps_machine.proofs.Advancing.{told_in}

pub may_lay_back : (old new : Log) (p : Sheet) → old.view.page ≡ here p → new ≡ lifted_in old → MayLay new.view p
may_lay_back old new p h e = may_lay old new p p h e refl refl

module _ (wipe : Bool) (s : State) (old lifted laid : Log) (p : Sheet) (h : old.view.page ≡ here p) (e : lifted ≡ lifted_in old) (f : laid ≡ acted_in lifted (store loc.Paper (value.Paper p))) where
  -- the paper was looked at and stored again
  stored : acted_in (looked_in old loc.Paper) (store loc.Paper (value_at old.view loc.Paper)) ≡ laid
  stored =
      ap (λ v. acted_in (looked_in old loc.Paper) (store loc.Paper v)) (ap (λ g. value_found (page_found g)) h)
      ∙ sym (laying_law old p)
      ∙ sym (f ∙ ap (λ l. acted_in l (store loc.Paper (value.Paper p))) e)

  abbrev there : Log
  there = acted_in (looked_in old loc.Paper) (store loc.Paper (value_at old.view loc.Paper))

  abbrev page : Output
  page = picture (sheet_in (value_at old.view loc.Paper))

  pub shows_kept : wipe ≡ false → reached (shows wipe s (ends (goes s))) old [] ≡ came (goes s) laid (shown old)
  shows_kept w = ap (λ b. reached (shows b s (ends (goes s))) old []) w ∙ ap (λ l. came (goes s) l (shown old)) (told_in there page ∙ stored)

  pub shows_wiped : (last : Log) (width height : ℕ) → wipe ≡ true → width ≡ s.regs.state.wide → height ≡ s.regs.state.high → last ≡ acted_in laid (wiping width height)
      → reached (shows wipe s (ends (goes s))) old [] ≡ came (goes s) last (shown old)
  shows_wiped last width height w a b g =
      ap (λ b. reached (shows b s (ends (goes s))) old []) w
      ∙ ap (λ l. came (goes s) (acted_in l (wiping s.regs.state.wide s.regs.state.high)) (shown old)) (told_in there page ∙ stored)
      ∙ ap (λ n. came (goes s) (acted_in laid (wiping n s.regs.state.high)) (shown old)) (sym a)
      ∙ ap (λ n. came (goes s) (acted_in laid (wiping width n)) (shown old)) (sym b)
      ∙ ap (λ l. came (goes s) l (shown old)) (sym g)
