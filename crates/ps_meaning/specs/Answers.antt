-- What comes of an application on a state and a memory.
use Rattle.std.specs.Prelude.{◌≡◌, ℕ, suc, ◌+◌, cond, List, [], ◌∷◌, ◌++◌, drop, Option, Some, None, option_map, Result, Ok, Err}
use Rattle.ps_objects.specs.declared.cell.SaveName.{SaveName}
use Rattle.ps_names.specs.declared.error_name.ErrorName.{ErrorName}
use Rattle.ps_kinds.specs.declared.act.Act.{Act}
use Rattle.ps_kinds.specs.declared.act.Act.TheVariants as act
use Rattle.ps_kinds.specs.declared.frame.Frame.{Frame}
use Rattle.ps_kinds.specs.declared.state.State.{State}
use Rattle.ps_memory.specs.Memory.{Memory, value_at, shape_of, fresh, save, restore}
use Rattle.ps_memory.specs.Tree.{Change, puts, makes, opens, Application, done, restores, fail, look, ask, applied, Step, did, result, after, trail}
use Rattle.ps_memory.specs.Track.{Track, track_on, outer_on}
use Rattle.ps_meaning.specs.Logs.{Log, looked_in, acted_in, changed_in, is_outer}

-- goes on with what was read, or fails
abbrev pub read : {A B : Type 0} → Result A ErrorName → (A → Application B) → Application B
read (Ok x) k = k x
read (Err e) k = fail e

-- how many names the changes take
abbrev pub names_taken : List Change → ℕ
names_taken [] = 0
names_taken (puts l v ∷ ws) = names_taken ws
names_taken (makes c sh ∷ ws) = suc (names_taken ws)
names_taken (opens s ∷ ws) = suc (names_taken ws)

-- The state after an application: the settings, the moment, the section, its kind and its turns are as before, the count has
-- passed the names that were taken, and the frames are those given, whatever the application says.
abbrev pub fixed : ℕ → List Frame → State → State → State
fixed n frames old new = record new { settings = old.settings; moment = old.moment; section = old.section; kind = old.kind; turns = old.turns; count = old.count + n; frames = frames }

-- The frame, if there is one, is what the application leaves on the frames below it: the rest of the frame that took a step, or
-- the frame of `stopped`. One more, the newest, may be carried by the act.
pub record Effect : Type 0 where
  pub state : State
  pub frames : List Frame
  pub act : Act

-- at most one
abbrev pub newest : List Frame → List Frame
newest [] = []
newest (f ∷ fs) = f ∷ []

-- an effect is no failure and no outer restore, whatever the application says
abbrev pub act_done : Act → Act
act_done (act.Fail e) = act.Done
act_done (act.Outer r) = act.Done
act_done a = a

-- the state of an effect over these frames
abbrev pub state_done : ℕ → List Frame → State → Effect → State
state_done n below s e = fixed n (newest e.frames ++ below) s e.state

-- what an application answers: its act, the state and the log after it
pub record Answer : Type 0 where
  pub act : Act
  pub state : State
  pub log : Log

-- What comes of an application over these frames. After an error the state and the memory are those before, but for the looks.
-- So they are where a restore is outer.
abbrev pub answer_over : List Frame → Application Effect → State → Log → Answer
answer_over below (done ws e) s log = record { act = act_done e.act; state = state_done (names_taken ws) below s e; log = changed_in log ws }
answer_over below (restores r ws e) s log = cond (is_outer log r)
    (record { act = act.Outer r; state = s; log = log })
    (record { act = act_done e.act; state = state_done (names_taken ws) below s e; log = changed_in (acted_in log (restore r)) ws })
answer_over below (fail e) s log = record { act = act.Fail e; state = s; log = log }
answer_over below (look l f) s log = answer_over below (f (value_at log.view l)) s (looked_in log l)
answer_over below (ask c f) s log = answer_over below (f (shape_of log.view c)) s log

-- an operator stands over all frames
abbrev pub answer : Application Effect → State → Log → Answer
answer a s = answer_over s.frames a s

-- a step of the newest frame stands over the others: it leaves that frame, another in its place, or none
abbrev pub step_answer : Application Effect → State → Log → Answer
step_answer a s = answer_over (drop 1 s.frames) a s

-- the first outer restore of an application, where the memory tells a track
abbrev pub outer_in : Application Effect → Memory → Option Track → Option SaveName
outer_in a M None = None
outer_in a M (Some k) = outer_on (applied a) M k

-- how many names a trail took
abbrev pub taken_by : List Step → ℕ
taken_by [] = 0
taken_by (did (fresh c sh) ∷ steps) = suc (taken_by steps)
taken_by (did (save s) ∷ steps) = suc (taken_by steps)
taken_by (_ ∷ steps) = taken_by steps

-- the act and the state that a run of the application has, which took n names
abbrev pub AnswersAs : List Frame → Result Effect ErrorName → ℕ → State → Answer → Type 0
AnswersAs below (Ok e) n s r = (r.act ≡ act_done e.act) × (r.state ≡ state_done n below s e)
AnswersAs below (Err e) n s r = (r.act ≡ act.Fail e) × (r.state ≡ s)

-- the answer is what the application has as a run
pub record IsRun (below : List Frame) (a : Application Effect) (s : State) (M : Memory) (k : Option Track) (r : Answer) : Type 0 where
  pub log : r.log ≡ record { view = after (applied a) M; track = option_map (track_on (applied a) M) k }
  pub outcome : AnswersAs below (result (applied a) M) (taken_by (trail (applied a) M)) s r

-- nothing is done but looks
pub record IsOuter (s : State) (M : Memory) (q : SaveName) (r : Answer) : Type 0 where
  pub act : r.act ≡ act.Outer q
  pub state : r.state ≡ s
  pub view : r.log.view ≡ M

-- the answer is that of the run, or of its first outer restore
abbrev pub AnswersRun : List Frame → Application Effect → State → Memory → Option Track → Answer → Option SaveName → Type 0
AnswersRun below a s M k r None = IsRun below a s M k r
AnswersRun below a s M k r (Some q) = IsOuter s M q r

-- an application answers as its run does, up to an outer restore
abbrev pub AnswerLaw : Type 0
AnswerLaw = (below : List Frame) (a : Application Effect) (s : State) (M : Memory) (k : Option Track) → AnswersRun below a s M k (answer_over below a s (record { view = M; track = k })) (outer_in a M k)
