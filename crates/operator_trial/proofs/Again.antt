-- A lawful operator leaves what the next one relies on.
use Rattle.std.proofs.Common.{◌≡◌, ℕ, ◌+◌, ◌≤◌, ◌^◌, List, [], ◌∷◌, ◌++◌, Option, None, refl, sym, ap, ◌∙◌, subst}
use Rattle.ps_kinds.specs.declared.act.Act.{Act}
use Rattle.ps_kinds.specs.declared.frame.Frame.{Frame}
use Rattle.ps_kinds.specs.declared.state.State.{State}
use Rattle.ps_memory.specs.Memory.{Memory, value_at, shape_of, restore, perform}
use Rattle.ps_memory.specs.Tree.{Change, puts, makes, opens, action_of, Application, done, restores, fail, look, ask, result, after, changes}
use Rattle.ps_meaning.specs.Answer.{Log, Answer, Effect, answer, answer_over, changed_in, names_taken, act_done, newest, fixed}
use Rattle.ps_meaning.specs.Ready.{FitFrames, FitsWorld, Fits, Ready, ReadyIn}
use Rattle.ps_meaning.specs.Registers.{world_of}
use Rattle.ps_meaning.specs.Sound.{World, SoundMemory, Kept}
use Rattle.ps_meaning.proofs.Ground.{ground}
use Rattle.ps_execution.specs.Execution.{Came, applies, ends_effect}
use Rattle.ps_execution.specs.Lawful.{FitsCame}
use Rattle.ps_execution.proofs.Loop.{world_is}
use Rattle.ps_operator.specs.Lawful.{IsLawful}
use Rattle.ps_operator.specs.Tree.{Ask}
use Rattle.ps_operator.proofs.Lawful.{frames_append}
use Rattle.ps_table.proofs.Entry.{entry_keeps}

-- a memory that tells no track
abbrev pub quiet_log : Memory → Log
quiet_log M = record { view = M; track = None }

-- what comes of an application over frames, all its frames on one list
abbrev standing : Came → State
standing c = record c.state { frames = c.frames ++ c.state.frames }

abbrev Agrees : Came → Memory → Answer → Type 0
Agrees c N r = (r.state ≡ standing c) × (r.log.view ≡ N)

changes_agree : (ws : List Change) (below : List Frame) (s : State) (e : Effect) (n : ℕ) (M : Memory)
    → Agrees (result (changes ws (ends_effect n below s e)) M) (after (changes ws (ends_effect n below s e)) M)
    (record { act = act_done e.act; state = fixed n (newest e.frames ++ below) s e.state; log = changed_in (quiet_log M) ws })
changes_agree [] below s e n M = (refl, refl)
changes_agree (puts l v ∷ ws) below s e n M = changes_agree ws below s e n (perform (action_of (puts l v)) M)
changes_agree (makes c sh ∷ ws) below s e n M = changes_agree ws below s e n (perform (action_of (makes c sh)) M)
changes_agree (opens r ∷ ws) below s e n M = changes_agree ws below s e n (perform (action_of (opens r)) M)

agree : (a : Ask) (s : State) (M : Memory) → Agrees (result (applies s.frames a s) M) (after (applies s.frames a s) M) (answer_over s.frames a s (quiet_log M))
agree (done ws e) s M = changes_agree ws s.frames s e (names_taken ws) M
agree (restores r ws e) s M = changes_agree ws s.frames s e (names_taken ws) (perform (restore r) M)
agree (fail e) s M = (refl, refl)
agree (look l f) s M = agree (f (value_at M l)) s M
agree (ask c f) s M = agree (f (shape_of M c)) s M

module _ (text : List ℕ) (t : State → Ask) (lawful : IsLawful t) (s : State) (M : Memory) (r : ReadyIn text s M) where
  abbrev W : World
  W = world_of s.section M

  abbrev came : Came
  came = result (applies s.frames (t s) s) M

  abbrev later : Memory
  later = after (applies s.frames (t s) s) M

  f : Fits text W s
  f = record { state = r.ready.state; start = r.ready.memory.start; within = r.within }

  kept : Kept (applies s.frames (t s) s) W M (FitsCame text s 4)
  kept = ground (applies s.frames (t s) s) W M (FitsCame text s 4) (entry_keeps text 4 s.frames (t s) s W f (lawful text s W f)) r.ready.memory

  again : (c : Came) (N : Memory) (V : World) → FitsCame text s 4 V c → SoundMemory V N → c.state.count ≤ 2 ^ 31 → ReadyIn text (standing c) N
  again c N V h m l =
      let e : world_of c.state.section N ≡ V = ap (λ n. world_of n N) (sym h.state.section) ∙ world_is V N m in
      record {
        ready = record {
          state = subst (λ U. FitsWorld U (standing c)) (sym e) (record {
            registers = h.state.registers;
            frames = frames_append V.shapes c.frames c.state.frames h.frames h.state.frames;
            ahead = h.state.ahead;
            budget = record { turns = h.state.budget.turns; units = h.state.budget.units; shows = h.state.budget.shows; said = h.state.budget.said };
            section = h.state.section;
          });
          memory = subst (λ U. SoundMemory U N) (sym e) m;
          count = l;
        };
        within = h.within;
      }

  -- unless its names have run out
  pub ready_again : (a : Act) (u : State) (log : Log) → answer (t s) s (quiet_log M) ≡ record { act = a; state = u; log = log } → u.count ≤ 2 ^ 31 → ReadyIn text u log.view
  ready_again a u log e l =
      let g = agree (t s) s M in
      let p : u ≡ standing came = sym (ap (λ (x : Answer). x.state) e) ∙ g.0 in
      let q : log.view ≡ later = sym (ap (λ (x : Answer). x.log.view) e) ∙ g.1 in
      subst (λ N. ReadyIn text u N) (sym q) (subst (λ v. ReadyIn text v later) (sym p) (again came later kept.world kept.ends kept.sound (subst (λ (v : State). v.count ≤ 2 ^ 31) p l)))
