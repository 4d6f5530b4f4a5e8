-- What a section leaves.
use Rattle.std.proofs.Common.{◌≡◌, ℕ, zero, suc, ◌≤◌, ◌<◌, ◌⊎◌, Option, Result, Bool, true, false, cond, List, [], ◌∷◌, refl, sym, ap, ◌∙◌, subst, arith, true≢false, inl, inr}
use Rattle.std.specs.List.{AllByRecursion}
use Rattle.ps_names.specs.declared.error_name.ErrorName.{ErrorName}
use Rattle.ps_objects.specs.declared.cell.SaveName.{SaveName}
use Rattle.ps_objects.specs.declared.section.SectionKind.{SectionKind}
use Rattle.ps_objects.specs.declared.settings.Settings.{Settings}
use Rattle.ps_kinds.specs.declared.regs.Regs.{Regs}
use Rattle.ps_kinds.specs.declared.state.State.{State}
use Rattle.ps_memory.specs.Memory.{CellMap, Memory, same_save}
use Rattle.ps_memory.specs.Tree.{Tree, ends, ◌>>=◌, applied, result, after}
use Rattle.ps_meaning.specs.Fits.{Shapes}
use Rattle.ps_meaning.specs.Kin.{HasNoneFrom, Follows, in_section}
use Rattle.ps_meaning.specs.Ready.{IsAhead, IsMadeBefore, Fall, FitsWorld}
use Rattle.ps_meaning.specs.Registers.{SoundRegisters, world_of}
use Rattle.ps_meaning.specs.Sound.{World, has_name, SoundKept, SoundMemory, StaysKin, Kept}
use Rattle.ps_meaning.proofs.Ground.{ground, kin_itself}
use Rattle.ps_meaning.proofs.Kin.{unnamed_law}
use Rattle.ps_meaning.proofs.Start.{start_law}
use Rattle.ps_execution.specs.Execution.{Outcome, Next, Exit, Stop, Quit, Spent, Ending, section, runs}
use Rattle.ps_execution.specs.Lawful.{LawfulTable, FitsEnding, SoundAt}
use Rattle.ps_execution.specs.Machine.{goes}
use Rattle.ps_execution.specs.Section.{fresh_state, Stopped, Report, SectionResult, report_of, reports, ended_so, section_meaning}
use Rattle.ps_execution.specs.Table.{Program}
use Rattle.ps_execution.proofs.Lawful.{lawful_bind}
use Rattle.ps_execution.proofs.Loop.{world_is}
use Rattle.ps_execution.proofs.Stays.{stays_sound, kept_bind}
use Rattle.ps_report.proofs.Taking.{reports_law}
use Rattle.ps_machine.specs.Starting.{MayRun}
use Rattle.ps_machine.proofs.Beginning.{begins_law}
use Rattle.section_sequence.specs.Between.{StartsLaw, EndsLaw}

-- ---- before a section

pub starts_law : StartsLaw
starts_law s = record { sound = (start_law s).0; unnamed = (start_law s).1 }

-- ---- a section

abbrev Leaves : World → SectionResult → Type 0
Leaves V r = SoundRegisters V r.regs

module _ (P : Program) (T : LawfulTable P.table) where
  -- the report of a section that was stopped changes no shape
  end_kept : (o : Outcome) (s : State) (W : World) (M : Memory) → FitsWorld W s → SoundMemory W M → Kept (ended_so s o) W M Leaves
  end_kept Next s W M f m = record { safe = tt; world = W; sound = m; kin = kin_itself W; ends = f.registers }
  end_kept Exit s W M f m = record { safe = tt; world = W; sound = m; kin = kin_itself W; ends = f.registers }
  end_kept Stop s W M f m =
      let g = λ (r : Result (Option Report) ErrorName). ends (record { end = Stopped; regs = s.regs; report = report_of r }) in
      ground (applied reports >>= g) W M Leaves
      (lawful_bind (applied reports) g W (λ V r. V ≡ W) Leaves (reports_law W m.start) (λ V r e. subst (λ U. SoundRegisters U s.regs) (sym e) f.registers)) m
  end_kept Quit s W M f m = record { safe = tt; world = W; sound = m; kin = kin_itself W; ends = f.registers }
  end_kept Spent s W M f m = record { safe = tt; world = W; sound = m; kin = kin_itself W; ends = f.registers }

  section_kept : (settings : Settings) (moment n : ℕ) (kind : SectionKind) (R : Regs) (M : Memory)
      → SoundAt P.text (goes (fresh_state settings moment n kind R)) M → Kept (section_meaning P settings moment n kind R) (world_of n M) M Leaves
  section_kept settings moment n kind R M h =
      let t = runs P section (fresh_state settings moment n kind R) in
      let k = λ (e : Ending). ended_so e.state e.outcome in
      let r = stays_sound P T (goes (fresh_state settings moment n kind R)) (world_of n M) M h.fits h.memory in
      kept_bind t k (world_of n M) M FitsEnding Leaves r (end_kept (result t M).outcome (result t M).state r.world (after t M) r.ends r.sound)

-- ---- after a section

-- what a number means to registers and memories is said of the names alone
registers_in : (m n : ℕ) (R : Regs) (M : Memory) → SoundRegisters (world_of m M) R → SoundRegisters (world_of n M) R
registers_in m n R M r = record { operands = r.operands; dicts = r.dicts; bottom = r.bottom; state = r.state; states = r.states; marks = r.marks; size = r.size }

memory_in : (m n : ℕ) (M N : Memory) → SoundMemory (world_of m N) M → SoundMemory (world_of n N) M
memory_in m n M N s = record { shapes = s.shapes; slots = s.slots; shared = s.shared; start = s.start; unique = s.unique; strings = s.strings; kept = s.kept; rand = s.rand; page = s.page }

unnamed_in : (k m n : ℕ) (M : Memory) → HasNoneFrom k (world_of m M) → HasNoneFrom k (world_of n M)
unnamed_in k m n M h = record { cells = h.cells; saves = h.saves }

-- what a section keeps of a memory without its names is before the next number
after_kept : {A : Type 0} (t : Tree A) (R : A → Regs) (n : ℕ) (M : Memory) → HasNoneFrom n (world_of n M)
    → (k : Kept t (world_of n M) M (λ V a. SoundRegisters V (R a))) → MayRun (suc n) (R (result t M)) (after t M)
after_kept t R n M h k =
    let N = after t M in
    let V = k.world in
    let e : world_of V.section N ≡ V = world_is V N k.sound in
    let r : SoundRegisters (world_of V.section N) (R (result t M)) = subst (λ U. SoundRegisters U (R (result t M))) (sym e) k.ends in
    let s : SoundMemory (world_of V.section N) N = subst (λ U. SoundMemory U N) (sym e) k.sound in
    let l : V.section ≡ n = k.kin.section in
    let f : Follows (world_of n M) (V ∷ []) = (subst (λ x. StaysKin (in_section x (world_of n M)) V) (sym l) k.kin, tt) in
    let u : HasNoneFrom (suc V.section) V = unnamed_law.after n (world_of n M) (V ∷ []) h (omega (arith, l), tt) f in
    let w : HasNoneFrom (suc V.section) (world_of V.section N) = subst (HasNoneFrom (suc V.section)) (sym e) u in
    record {
      sound = record { registers = λ m. registers_in V.section m (R (result t M)) N r; memory = λ m. memory_in V.section m N N s };
      unnamed = unnamed_in (suc n) V.section (suc n) N (subst (λ x. HasNoneFrom (suc x) (world_of V.section N)) l w);
    }

pub ends_law : EndsLaw
ends_law P T settings moment n kind R M l m =
    after_kept (section_meaning P settings moment n kind R) (λ r. r.regs) n M m.unnamed
    (section_kept P T settings moment n kind R M (begins_law P.text settings moment n kind R M l m))

-- a number that may run leaves all greater ones
pub later_may : (m n : ℕ) (R : Regs) (M : Memory) → n ≤ m → MayRun n R M → MayRun m R M
later_may m n R M l h = record {
  sound = h.sound;
  unnamed = record { cells = λ c k. h.unnamed.cells c (omega (arith, l, k)); saves = λ s k. h.unnamed.saves s (omega (arith, l, k)) };
}
