use Rattle.std.proofs.Common.{◌≡◌, ◌++◌, take}
use Rattle.dump_lines.specs.Values.{clip_text, spaced}
use Rattle.dump_lines.proofs.values.push_spaced_clips.Given as goal

abbrev pub invariant-loop-clip : goal.invariant-loop-clip
invariant-loop-clip l = l.text ≡ l.fn.text ++ spaced clip_text (take l.clip-index l.clips)
