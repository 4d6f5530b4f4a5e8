-- Steps of the search for what an exit comes to.
use Rattle.std.proofs.Common.{◌≡◌, ℕ, ◌+◌, true, false, cond, List, drop, Some, Ok, Err, slice_get, ap, ◌∙◌}
use Rattle.ps_names.specs.declared.error_name.ErrorName.TheVariants.{InvalidExit}
use Rattle.ps_kinds.specs.declared.frame.Frame.{Frame}
use Rattle.ps_execution.specs.Frames.{way, is_loop}
use Rattle.ps_operator.proofs.LookSteps.{drop_at_get}
use Rattle.control_ops.specs.Leaving.{is_barrier, exit_right}

module _ (fs : List Frame) (i : ℕ) (f : Frame) (here : slice_get fs i ≡ Some f) where
  pub exit_hit : is_loop (way f) ≡ true → exit_right (drop i fs) ≡ Ok tt
  exit_hit h =
      ap exit_right (drop_at_get fs i f here)
      ∙ ap (λ b. cond b (Ok tt) (cond (is_barrier (way f)) (Err InvalidExit) (exit_right (drop (i + 1) fs)))) h

  not_loop : is_loop (way f) ≡ false → exit_right (drop i fs) ≡ cond (is_barrier (way f)) (Err InvalidExit) (exit_right (drop (i + 1) fs))
  not_loop h =
      ap exit_right (drop_at_get fs i f here)
      ∙ ap (λ b. cond b (Ok tt) (cond (is_barrier (way f)) (Err InvalidExit) (exit_right (drop (i + 1) fs)))) h

  pub exit_barred : is_loop (way f) ≡ false → is_barrier (way f) ≡ true → exit_right (drop i fs) ≡ Err InvalidExit
  exit_barred h b = not_loop h ∙ ap (λ b. cond b (Err InvalidExit) (exit_right (drop (i + 1) fs))) b

  pub exit_passed : is_loop (way f) ≡ false → is_barrier (way f) ≡ false → exit_right (drop i fs) ≡ exit_right (drop (i + 1) fs)
  exit_passed h b = not_loop h ∙ ap (λ b. cond b (Err InvalidExit) (exit_right (drop (i + 1) fs))) b
