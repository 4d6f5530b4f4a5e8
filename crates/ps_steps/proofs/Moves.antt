-- One step of the machine.
use Rattle.std.proofs.Common.{◌≡◌, ℕ, ◌+◌, ◌*◌, ◌≤◌, arith, List, [], ◌∷◌, sym, ap, ◌∙◌, subst}
use Rattle.ps_names.specs.declared.error_name.ErrorName.{ErrorName}
use Rattle.ps_objects.specs.declared.object.Object.{Object}
use Rattle.ps_kinds.specs.declared.frame.Frame.{Frame}
use Rattle.ps_kinds.specs.declared.state.State.{State}
use Rattle.ps_memory.specs.Memory.{Memory, Output}
use Rattle.ps_meaning.specs.Answer.{Log}
use Rattle.ps_execution.specs.Execution.{on}
use Rattle.ps_execution.specs.Lawful.{SoundAt}
use Rattle.ps_execution.specs.Machine.{goes, raised, move_frame, move_on}
use Rattle.ps_execution.specs.Reached.{reached}
use Rattle.ps_execution.specs.Table.{Program}
use Rattle.ps_steps.specs.Operators.{FitsHere}
use Rattle.ps_reader.specs.Reading.{IsReady}
use Rattle.ps_steps.specs.Texts.{section_move}

pub more_ready : (text : List ℕ) (s : State) (M : Memory) → IsReady 0 text s M → IsReady 1 text s M
more_ready text s M r = record { fits = r.fits; memory = r.memory; paid = let p : s.count ≤ 5 * s.turns + s.units + 0 = r.paid in omega (arith, p) }

pub again : (text : List ℕ) (f : Frame) (s : State) (fs : List Frame) (M : Memory) → fs ≡ f ∷ s.frames → IsReady 0 text (on (f ∷ s.frames) s) M → IsReady 1 text (on fs s) M
again text f s fs M e r = subst (λ gs. IsReady 1 text (on gs s) M) (sym e) (more_ready text (on (f ∷ s.frames) s) M r)

pub newest_ready : (n : ℕ) (text : List ℕ) (s : State) (f : Frame) (fs : List Frame) (M : Memory) → s.frames ≡ f ∷ fs → IsReady n text s M → IsReady n text (on (f ∷ fs) (on fs s)) M
newest_ready n text s f fs M e r = subst (λ gs. IsReady n text (on gs s) M) e r

pub newest_moves : (P : Program) (s : State) (f : Frame) (fs : List Frame) (log : Log) (out : List Output) → s.frames ≡ f ∷ fs → reached (move_on P s.frames s) log out ≡ reached (move_frame P f (on fs s)) log out
newest_moves P s f fs log out e = ap (λ gs. reached (move_on P gs s) log out) e

none_same : (s : State) (fs : List Frame) → s.frames ≡ [] → fs ≡ [] → on fs s ≡ s
none_same s fs e h = ap (λ gs. on gs s) (h ∙ sym e)

pub none_ready : (n : ℕ) (text : List ℕ) (s : State) (fs : List Frame) (M : Memory) → s.frames ≡ [] → fs ≡ [] → IsReady n text s M → IsReady n text (on fs s) M
none_ready n text s fs M e h r = subst (λ u. IsReady n text u M) (sym (none_same s fs e h)) r

pub none_moves : (P : Program) (s : State) (fs : List Frame) (log : Log) (out : List Output) → s.frames ≡ [] → fs ≡ [] → reached (move_on P s.frames s) log out ≡ reached (section_move P (on fs s)) log out
none_moves P s fs log out e h = ap (λ gs. reached (move_on P gs s) log out) e ∙ ap (λ u. reached (section_move P u) log out) (sym (none_same s fs e h))

pub goes_ready : (text : List ℕ) (s : State) (M : Memory) → SoundAt text (goes s) M → IsReady 0 text s M
goes_ready text s M h = record { fits = h.fits.0; memory = h.memory; paid = h.fits.1 }

pub raised_ready : (text : List ℕ) (e : ErrorName) (x : Object) (s : State) (M : Memory) → SoundAt text (raised e x s) M → IsReady 1 text s M
raised_ready text e x s M h = record { fits = h.fits.0; memory = h.memory; paid = h.fits.2 }

pub raised_fits : (text : List ℕ) (e : ErrorName) (x : Object) (s : State) (M : Memory) → SoundAt text (raised e x s) M → FitsHere M x
raised_fits text e x s M h = h.fits.1
