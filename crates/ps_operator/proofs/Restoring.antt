-- What a restore needs, and that the paper is here after it.
use Rattle.std.proofs.Common.{◌≡◌, true, map, Option, Some, None, sym, ◌∙◌, subst}
use Rattle.ps_objects.specs.declared.cell.SaveName.{SaveName}
use Rattle.ps_memory.specs.Memory.{Memory, CellMap, copy_named, do_restore, restore}
use Rattle.ps_kinds.specs.declared.state.State.{State}
use Rattle.ps_meaning.specs.Sound.{has_name}
use Rattle.ps_meaning.specs.Registers.{world_of}
use Rattle.ps_meaning.specs.Answer.{Log, acted_in}
use Rattle.ps_meaning.proofs.Memory.{opened_in}
use Rattle.ps_meaning.proofs.Fits.{apart}
use Rattle.vm_mem.specs.Conditions.{is_here, page_is_here, MayRestore}
use Rattle.ps_meaning.specs.Ready.{Ready}
use Rattle.ps_operator.proofs.Standing.{page_stands}

back_page : (q : SaveName) (o : Option CellMap) (M : Memory) → page_is_here M ≡ true → page_is_here (do_restore q o M) ≡ true
unfolding page_is_here
back_page q None M h = h
back_page q (Some copy) M h = h

pub restored_page : (old new : Log) (q : SaveName) → new ≡ acted_in old (restore q) → page_is_here old.view ≡ true → page_is_here new.view ≡ true
restored_page old new q e h = subst (λ (log : Log). page_is_here log.view ≡ true) (sym e) (back_page q (copy_named q old.view.kept) old.view h)

module _ (s : State) (M : Memory) (r : Ready s M) where
  pub named_open : (q : SaveName) → has_name q (map (λ k. k.0) M.kept) ≡ true → MayRestore M q
  unfolding MayRestore
  named_open q h =
      let o = opened_in (world_of s.section M).shapes q (map (λ k. k.0) M.kept) M.kept h r.memory.kept in
      (page_stands s M r, λ e. apart o.copy (sym o.is_copy ∙ e))
