-- A section that begins on the memory with which a job starts is ready, with operands that fit that memory.
use Rattle.std.proofs.Common.{◌≡◌, ℕ, ◌<◌, ◌≤◌, true, List, [], refl, sym, subst, arith}
use Rattle.std.specs.List.{AllByRecursion}
use Rattle.ps_objects.specs.declared.object.Object.{Object}
use Rattle.ps_objects.specs.declared.settings.Settings.{Settings}
use Rattle.ps_memory.specs.Memory.{Memory, shape_at}
use Rattle.ps_meaning.specs.Fits.{FitsObject}
use Rattle.ps_meaning.specs.Ready.{IsAhead, ReadyIn}
use Rattle.ps_meaning.specs.Registers.{world_of, SoundRegisters}
use Rattle.ps_meaning.specs.Start.{start_memory, start_registers}
use Rattle.ps_meaning.proofs.Start.{start_law}
use Rattle.operator_trial.specs.Start.{all_stand, page_settings, begun}
use Rattle.operator_trial.proofs.Standing.{all_fit}

-- no name of a section is taken yet
start_ahead : (n : ℕ) (p : Settings) → 0 < n → IsAhead (world_of n (start_memory p)) 0
start_ahead n p h = record {
  here = λ c e l. (start_law p).1.cells c (omega (arith, e, h));
  later = λ c l. (start_law p).1.cells c (omega (arith, l, h));
  saves = tt;
  fall = tt;
  begun = tt;
  section = omega (arith, h);
}

module _ (xs : List Object) where
  begun_fits : AllByRecursion (FitsObject (shape_at (start_memory page_settings))) xs → ReadyIn [] (begun xs) (start_memory page_settings)
  begun_fits h =
      let l : SoundRegisters (world_of 3 (start_memory page_settings)) (start_registers page_settings) = (start_law page_settings).0.registers 3 in
      record {
        ready = record {
          state = record {
            registers = record { operands = h; dicts = l.dicts; bottom = l.bottom; state = l.state; states = l.states; marks = l.marks; size = l.size };
            frames = tt;
            ahead = start_ahead 3 page_settings (omega arith);
            budget = record { turns = omega arith; units = omega arith; shows = omega arith; said = omega arith };
            section = refl;
          };
          memory = (start_law page_settings).0.memory 3;
          count = omega arith;
        };
        within = omega arith;
      }

  -- over any memory that is the start memory
  pub begun_ready : (M : Memory) → M ≡ start_memory page_settings → all_stand xs ≡ true → ReadyIn [] (begun xs) M
  begun_ready M e h = subst (λ N. ReadyIn [] (begun xs) N) (sym e) (begun_fits (all_fit (shape_at (start_memory page_settings)) ((start_law page_settings).0.memory 3).start xs h))
