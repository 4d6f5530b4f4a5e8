-- An exit or a stop that comes to one frame.
use Rattle.std.proofs.Common.{◌≡◌, suc, ◌≤◌, Bool, true, false, cond, List, [], ◌∷◌, length, Ok, refl, sym, ap, ◌∙◌, subst, arith}
use Rattle.ps_kinds.specs.declared.frame.Frame.{Frame}
use Rattle.ps_kinds.specs.declared.frame.Frame.TheVariants as frame
use Rattle.ps_kinds.specs.declared.show.ShowRun.{ShowRun}
use Rattle.ps_kinds.specs.declared.state.State.{State}
use Rattle.ps_memory.specs.Memory.{Output}
use Rattle.ps_memory.specs.Tree.{ends, ◌>>=◌}
use Rattle.ps_meaning.specs.Answer.{Log}
use Rattle.ps_execution.specs.Execution as execution
use Rattle.ps_execution.specs.Execution.{Ending, ends_so, on, wiped, leaves_show, stops, leave}
use Rattle.ps_execution.specs.Frames.{way, is_loop}
use Rattle.ps_execution.specs.Machine.{goes, ended, unwound}
use Rattle.ps_execution.specs.Reached.{came, reached, goes_on_from}
use Rattle.ps_execution.specs.Table.{Program}
use Rattle.ps_execution.proofs.Bind.{Leaves}
use Rattle.ps_execution.proofs.Loop.{Holds, leaves_reached}
use Rattle.ps_execution.proofs.Reached.{reached_bind}
use Rattle.ps_steps.specs.Leaving.{Takes}
use Rattle.ps_steps.specs.Next.{outcome_at, outcome_if}
use Rattle.ps_steps.specs.Operators.{wiped_in, Leaves as LeavesShow}

abbrev Stays : List Frame → Ending → Type 0
Stays fs e = e.state.frames ≡ fs

wiped_stays : (b : Bool) (s t : State) (fs : List Frame) → t.frames ≡ fs → Leaves (Stays fs) (wiped b s (ends_so execution.Stop t))
wiped_stays true s t fs e = e
wiped_stays false s t fs e = e

exit_stays : (b : Bool) (s : State) → Leaves (Stays s.frames) (cond b (ends_so execution.Next s) (ends_so execution.Exit s))
exit_stays true s = refl
exit_stays false s = refl

stop_stays : (P : Program) (f : Frame) (s : State) → Leaves (Stays s.frames) (stops P f s)
stop_stays P frame.Stopped s = refl
stop_stays P (frame.Show r) s = wiped_stays (P.table.leave r s).wipes (record s { regs = (P.table.leave r s).regs }) (record s { regs = (P.table.leave r s).regs }) s.frames refl
stop_stays P (frame.Proc body i) s = refl
stop_stays P (frame.Text x bytes place) s = refl
stop_stays P (frame.For body next increment limit whole) s = refl
stop_stays P (frame.Repeat body n) s = refl
stop_stays P (frame.Loop body) s = refl
stop_stays P (frame.Items array i body) s = refl
stop_stays P (frame.Bytes string i body) s = refl
stop_stays P (frame.Pairs pairs i body) s = refl
stop_stays P (frame.Image r) s = refl
stop_stays P (frame.Walk w) s = refl

leave_stays : (P : Program) (f : Frame) (stop : Bool) (s : State) → Leaves (Stays s.frames) (leave P f (outcome_at stop) s)
leave_stays P f true s = stop_stays P f s
leave_stays P f false s = exit_stays (is_loop (way f)) s

-- the state that a frame leaves has the frames below it
frames_left : (P : Program) (f : Frame) (stop : Bool) (s : State) (log there : Log) (out told : List Output) (e : Ending) → reached (leave P f (outcome_at stop) s) log out ≡ came e there told → e.state.frames ≡ s.frames
frames_left P f stop s log there out told e h = subst (Holds (Stays s.frames)) h (leaves_reached (Stays s.frames) (leave P f (outcome_at stop) s) log out (leave_stays P f stop s))

unfolded : (P : Program) (f : Frame) (fs : List Frame) (stop : Bool) (s : State) → unwound P (f ∷ fs) (outcome_at stop) s ≡ (leave P f (outcome_at stop) (on fs s) >>= (λ e. unwound P fs e.outcome e.state))
unfolded P f fs true s = refl
unfolded P f fs false s = refl

went : (P : Program) (f : Frame) (fs : List Frame) (stop taken : Bool) (s t : State) (log there : Log) → ((out : List Output) → reached (leave P f (outcome_at stop) (on fs s)) log out ≡ came (record { outcome = outcome_if taken stop; state = t }) there out)
    → (out : List Output) → reached (unwound P (f ∷ fs) (outcome_at stop) s) log out ≡ reached (unwound P fs (outcome_if taken stop) t) there out
went P f fs stop taken s t log there h out =
    ap (λ u. reached u log out) (unfolded P f fs stop s)
    ∙ reached_bind (leave P f (outcome_at stop) (on fs s)) (λ e. unwound P fs e.outcome e.state) log out
    ∙ ap (λ r. goes_on_from r (λ e. unwound P fs e.outcome e.state)) (h out)

stands : (P : Program) (fs : List Frame) (t : State) → t.frames ≡ fs → unwound P fs execution.Next t ≡ ends (goes t)
stands P [] t e = ap (λ gs. ends (goes (on gs t))) (sym e)
stands P (f ∷ fs) t e = ap (λ gs. ends (goes (on gs t))) (sym e)

-- it is taken
pub taken_so : (P : Program) (f : Frame) (stop : Bool) (s popped t : State) (log there : Log) → s.frames ≡ f ∷ popped.frames → popped ≡ on popped.frames s
    → ((out : List Output) → reached (leave P f (outcome_at stop) popped) log out ≡ came (record { outcome = outcome_if true stop; state = t }) there out)
    → (out : List Output) → reached (unwound P s.frames (outcome_at stop) s) log out ≡ came (goes t) there out
taken_so P f stop s popped t log there e u h out =
    let fs = popped.frames in
    let k : (out : List Output) → reached (leave P f (outcome_at stop) (on fs s)) log out ≡ came (record { outcome = execution.Next; state = t }) there out = λ o. ap (λ v. reached (leave P f (outcome_at stop) v) log o) (sym u) ∙ h o in
    ap (λ gs. reached (unwound P gs (outcome_at stop) s) log out) e
    ∙ went P f fs stop true s t log there k out
    ∙ ap (λ r. reached r there out) (stands P fs t (frames_left P f stop (on fs s) log there out out (record { outcome = execution.Next; state = t }) (k out)))

-- or goes on
pub passes_so : (P : Program) (f : Frame) (stop : Bool) (s popped t : State) (log there : Log) → s.frames ≡ f ∷ popped.frames → popped ≡ on popped.frames s
    → ((out : List Output) → reached (leave P f (outcome_at stop) popped) log out ≡ came (record { outcome = outcome_if false stop; state = t }) there out)
    → (out : List Output) → reached (unwound P t.frames (outcome_at stop) t) there out ≡ reached (unwound P s.frames (outcome_at stop) s) log out
passes_so P f stop s popped t log there e u h out =
    let fs = popped.frames in
    let k : (out : List Output) → reached (leave P f (outcome_at stop) (on fs s)) log out ≡ came (record { outcome = outcome_at stop; state = t }) there out = λ o. ap (λ v. reached (leave P f (outcome_at stop) v) log o) (sym u) ∙ h o in
    let same = frames_left P f stop (on fs s) log there out out (record { outcome = outcome_at stop; state = t }) (k out) in
    ap (λ gs. reached (unwound P gs (outcome_at stop) t) there out) same
    ∙ sym (ap (λ gs. reached (unwound P gs (outcome_at stop) s) log out) e ∙ went P f fs stop false s t log there k out)

bare : (P : Program) (stop : Bool) (s : State) → s.frames ≡ [] → unwound P [] (outcome_at stop) s ≡ ends (ended (outcome_at stop) s)
bare P true s e = ap (λ gs. ends (ended execution.Stop (on gs s))) (sym e)
bare P false s e = ap (λ gs. ends (ended execution.Exit (on gs s))) (sym e)

-- no frame stands
pub thrown_out : (P : Program) (stop : Bool) (s : State) (log : Log) (out : List Output) → s.frames ≡ [] → reached (unwound P s.frames (outcome_at stop) s) log out ≡ came (ended (outcome_at stop) s) log out
thrown_out P stop s log out e = ap (λ gs. reached (unwound P gs (outcome_at stop) s) log out) e ∙ ap (λ t. reached t log out) (bare P stop s e)

pub left_if : (P : Program) (f : Frame) (stop taken b : Bool) (s t : State) (log there : Log) → taken ≡ b
    → ((out : List Output) → reached (leave P f (outcome_at stop) s) log out ≡ came (record { outcome = outcome_if taken stop; state = t }) there out)
    → (out : List Output) → reached (leave P f (outcome_at stop) s) log out ≡ came (record { outcome = outcome_if b stop; state = t }) there out
left_if P f stop taken b s t log there e h = λ out. h out ∙ ap (λ x. came (record { outcome = outcome_if x stop; state = t }) there out) e

pub fewer_frames : (P : Program) (f : Frame) (stop taken : Bool) (s popped t : State) (log there : Log) → s.frames ≡ f ∷ popped.frames
    → ((out : List Output) → reached (leave P f (outcome_at stop) popped) log out ≡ came (record { outcome = outcome_if taken stop; state = t }) there out) → suc (length t.frames) ≤ length s.frames
fewer_frames P f stop taken s popped t log there e h =
    let a : length t.frames ≡ length popped.frames = ap length (frames_left P f stop popped log there [] [] (record { outcome = outcome_if taken stop; state = t }) (h [])) in
    let b : length s.frames ≡ length (f ∷ popped.frames) = ap length e in
    omega (arith, a, b)

-- a show is left
wiped_left : (b : Bool) (t : State) (log : Log) (out : List Output) → reached (wiped b t (ends_so execution.Stop t)) log out
    ≡ came (record { outcome = execution.Stop; state = t }) (wiped_in b t.regs.state.wide t.regs.state.high log) out
wiped_left true t log out = refl
wiped_left false t log out = refl

show_so : (P : Program) (r : ShowRun) (s u : State) (log there : Log) → LeavesShow (P.table.leave r) s log (Ok tt) u there → Takes (leave P (frame.Show r) execution.Stop s) true log (Ok false) u there
show_so P r s u log there h out =
    wiped_left (P.table.leave r s).wipes (record s { regs = (P.table.leave r s).regs }) log out
    ∙ (λ i. came (record { outcome = execution.Stop; state = sym h.0 i }) (sym h.1 i) out)

pub show_left : (P : Program) (f : Frame) (r : ShowRun) (stop : Bool) (s u : State) (log there : Log) → f ≡ frame.Show r → stop ≡ true → LeavesShow (P.table.leave r) s log (Ok tt) u there
    → Takes (leave P f (outcome_at stop) s) stop log (Ok false) u there
show_left P f r stop s u log there e b h =
    subst (λ g. Takes (leave P g (outcome_at stop) s) stop log (Ok false) u there) (sym e)
    (subst (λ x. Takes (leave P (frame.Show r) (outcome_at x) s) x log (Ok false) u there) (sym b) (show_so P r s u log there h))
