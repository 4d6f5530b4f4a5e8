-- One object that is read.
use Rattle.std.proofs.Common.{◌≡◌, ℕ, ◌+◌, ◌*◌, arith, ◌≤◌, List, [], ◌∷◌, length, Option, Some, None, sym, ap, ◌∙◌, subst}
use Rattle.std.specs.Bool.{⊤}
use Rattle.ps_objects.specs.declared.cell.SaveName.{SaveName}
use Rattle.ps_objects.specs.declared.object.Object.{Object}
use Rattle.ps_kinds.specs.declared.frame.Frame.TheVariants as frame
use Rattle.ps_kinds.specs.declared.state.State.{State}
use Rattle.ps_memory.specs.Memory.{Memory, Output}
use Rattle.ps_memory.specs.Tree.{Tree}
use Rattle.ps_meaning.specs.Answer.{Log}
use Rattle.ps_objects.specs.Object.{cell_named}
use Rattle.ps_meaning.specs.Fits.{takes}
use Rattle.ps_meaning.specs.Registers.{world_of}
use Rattle.ps_meaning.specs.Sound.{World, SoundMemory, Lawful, Kept}
use Rattle.ps_meaning.proofs.Ground.{ground}
use Rattle.ps_execution.specs.Execution.{Read, reads, on}
use Rattle.ps_execution.specs.Gather.{object, bad, nothing, gather}
use Rattle.ps_execution.specs.Gather as spelling
use Rattle.ps_execution.specs.Lawful.{FitsRead, unpaid, IsPaid}
use Rattle.ps_execution.specs.Machine.{move_text, move_section}
use Rattle.ps_execution.specs.Reached.{Reached, came, outer, reached, goes_on_from, outer_for, reached_as}
use Rattle.ps_execution.specs.Table.{Program}
use Rattle.ps_execution.proofs.Gather.{read_law}
use Rattle.ps_execution.proofs.Grows.{cell_grows}
use Rattle.ps_execution.proofs.Lawful.{whole_on}
use Rattle.ps_execution.proofs.Loop.{world_is}
use Rattle.ps_execution.proofs.Reached.{reached_bind, reached_law}
use Rattle.ps_steps.specs.Operators.{FitsHere}
use Rattle.ps_gather.specs.Ended.{spelt_of}
use Rattle.ps_reader.specs.Reading.{IsReady, Reads}
use Rattle.ps_gather.specs.declared.spelt.Spelt.{Spelt}
use Rattle.ps_steps.specs.Texts.{string_move, section_move}

-- what a lawful run on a sound memory comes to
record Sure (Q : World → Read → Type 0) (d : Read) (log : Log) : Type 0 where
  world : World
  memory : SoundMemory world log.view
  holds : Q world d

abbrev IsSure : (World → Read → Type 0) → Reached Read → Type 0
IsSure Q (came d log out) = Sure Q d log
IsSure Q (outer q) = ⊤

sure : (t : Tree Read) (W : World) (Q : World → Read → Type 0) (log : Log) (out : List Output) → Lawful t W Q → SoundMemory W log.view → IsSure Q (reached t log out)
sure t W Q log out l s = subst (IsSure Q) (sym (reached_law Read t log.view log.track out)) (go (outer_for t log.view log.track))
  where
    k : Kept t W log.view Q
    k = ground t W log.view Q l s

    go : (q : Option SaveName) → IsSure Q (reached_as t log.view log.track out q)
    go None = record { world = k.world; memory = k.sound; holds = k.ends }
    go (Some q) = tt

-- what was read from these bytes, in the memory's own world
record ReadHere (text : List ℕ) (before : State) (size : ℕ) (W : World) (d : Read) (M : Memory) : Type 0 where
  memory : SoundMemory (world_of d.state.section M) M
  fits : FitsRead text before size W (world_of d.state.section M) d

was_read : (text bytes : List ℕ) (place : ℕ) (s : State) (log there : Log) (d : Read) (out told : List Output) → IsReady 0 text s log.view → place ≤ length bytes
    → reached (reads (gather bytes place s) s) log out ≡ came d there told → ReadHere text s (length bytes) (world_of s.section log.view) d there.view
was_read text bytes place s log there d out told r b e =
    let W = world_of s.section log.view in
    let q = subst (IsSure (FitsRead text s (length bytes) W)) e (sure (reads (gather bytes place s) s) W (FitsRead text s (length bytes) W) log out (read_law text bytes place s W r.fits b) r.memory) in
    let same : world_of d.state.section there.view ≡ q.world = ap (λ n. world_of n there.view) (sym q.holds.state.state.section) ∙ world_is q.world there.view q.memory in
    record { memory = subst (λ V. SoundMemory V there.view) (sym same) q.memory; fits = subst (λ V. FitsRead text s (length bytes) W V d) (sym same) q.holds }

-- at most one name has no unit
unpaid_most : (x : spelling.Spelt) → unpaid x ≤ 1
unpaid_most (object x) = omega arith
unpaid_most (bad e) = omega arith
unpaid_most nothing = omega arith

read_paid : (s t : State) (x : spelling.Spelt) → t.turns ≡ s.turns → t.count + s.units ≤ s.count + unpaid x + t.units → IsPaid 0 s → IsPaid 1 t
read_paid s t x e p h =
    let a : s.count ≤ 5 * s.turns + s.units + 0 = h in
    let b : t.count + s.units ≤ s.count + unpaid x + t.units = p in
    let c : unpaid x ≤ 1 = unpaid_most x in
    omega (arith, a, b, c, e)

-- ---- strings

pub string_ready : (text : List ℕ) (string : Object) (bytes : List ℕ) (place : ℕ) (s : State) (M : Memory) → IsReady 0 text (on (frame.Text string bytes place ∷ s.frames) s) M → IsReady 0 text s M
string_ready text string bytes place s M r = record { fits = whole_on text (world_of s.section M) (on (frame.Text string bytes place ∷ s.frames) s) s.frames r.fits r.fits.state.frames.1; memory = r.memory; paid = r.paid }

pub string_place : (text : List ℕ) (string : Object) (bytes : List ℕ) (place : ℕ) (s : State) (M : Memory) → IsReady 0 text (on (frame.Text string bytes place ∷ s.frames) s) M → place ≤ length bytes
string_place text string bytes place s M r = r.fits.state.frames.0.1

pub string_came : (P : Program) (string : Object) (bytes : List ℕ) (place : ℕ) (s : State) (log there : Log) (d : Read) (out : List Output) → Reads bytes place s log d there → reached (string_move P string bytes place s) log out ≡ reached (move_text P string bytes d) there out
string_came P string bytes place s log there d out h = reached_bind (reads (gather bytes place s) s) (move_text P string bytes) log out ∙ ap (λ r. goes_on_from r (move_text P string bytes)) (h out)

pub again_ready : (text : List ℕ) (string : Object) (bytes : List ℕ) (place : ℕ) (s : State) (log there : Log) (d : Read) → IsReady 0 text (on (frame.Text string bytes place ∷ s.frames) s) log.view → Reads bytes place s log d there
    → IsReady 1 text (on (frame.Text string bytes d.place ∷ d.state.frames) d.state) there.view
again_ready text string bytes place s log there d r h =
    let q = was_read text bytes place s log there d [] [] (string_ready text string bytes place s log.view r) (string_place text string bytes place s log.view r) (h []) in
    let V = world_of d.state.section there.view in
    let k = cell_grows (world_of s.section log.view).shapes V.shapes q.fits.grows (cell_named string.kind) (takes string.kind) r.fits.state.frames.0.0 in
    record { fits = whole_on text V d.state (frame.Text string bytes d.place ∷ d.state.frames) q.fits.state ((k, q.fits.place), q.fits.state.state.frames); memory = q.memory; paid = read_paid s d.state d.spelt q.fits.turns q.fits.paid r.paid }

pub again_fits : (text : List ℕ) (string : Object) (bytes : List ℕ) (place : ℕ) (s t : State) (log there : Log) (next : ℕ) (x : Object) → IsReady 0 text (on (frame.Text string bytes place ∷ s.frames) s) log.view
    → Reads bytes place s log (record { spelt = object x; place = next; state = t }) there → FitsHere there.view x
again_fits text string bytes place s t log there next x r h =
    (was_read text bytes place s log there (record { spelt = object x; place = next; state = t }) [] [] (string_ready text string bytes place s log.view r) (string_place text string bytes place s log.view r) (h [])).fits.spelt

-- ---- the section's text

pub section_place : (text : List ℕ) (s : State) (M : Memory) → IsReady 0 text s M → s.place ≤ length text
section_place text s M r = r.fits.within

pub section_came : (P : Program) (s : State) (log there : Log) (d : Read) (out : List Output) → Reads P.text s.place s log d there → reached (section_move P s) log out ≡ reached (move_section P d) there out
section_came P s log there d out h = reached_bind (reads (gather P.text s.place s) s) (move_section P) log out ∙ ap (λ r. goes_on_from r (move_section P)) (h out)

pub placed_ready : (text : List ℕ) (s : State) (log there : Log) (d : Read) → IsReady 0 text s log.view → Reads text s.place s log d there → IsReady 1 text (record d.state { place = d.place }) there.view
placed_ready text s log there d r h =
    let q = was_read text text s.place s log there d [] [] r r.fits.within (h []) in
    let f = q.fits.state in
    record {
      fits = record {
        state = record {
          registers = f.state.registers;
          frames = f.state.frames;
          ahead = f.state.ahead;
          budget = record { turns = f.state.budget.turns; units = f.state.budget.units; shows = f.state.budget.shows; said = f.state.budget.said };
          section = f.state.section;
        };
        start = f.start;
        within = q.fits.place;
      };
      memory = q.memory;
      paid = read_paid s d.state d.spelt q.fits.turns q.fits.paid r.paid;
    }

pub placed_fits : (text : List ℕ) (s t : State) (log there : Log) (next : ℕ) (x : Object) → IsReady 0 text s log.view → Reads text s.place s log (record { spelt = object x; place = next; state = t }) there → FitsHere there.view x
placed_fits text s t log there next x r h = (was_read text text s.place s log there (record { spelt = object x; place = next; state = t }) [] [] r r.fits.within (h [])).fits.spelt

-- the reading of what is known to be spelt
pub as_spelt : (bytes : List ℕ) (place : ℕ) (s t : State) (log there : Log) (next : ℕ) (w v : Spelt) → w ≡ v → Reads bytes place s log (record { spelt = spelt_of w; place = next; state = t }) there → Reads bytes place s log (record { spelt = spelt_of v; place = next; state = t }) there
as_spelt bytes place s t log there next w v e h = subst (λ x. Reads bytes place s log (record { spelt = spelt_of x; place = next; state = t }) there) e h
