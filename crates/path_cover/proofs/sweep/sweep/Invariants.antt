use Rattle.std.proofs.Common.{◌≡◌, ℕ, ◌<◌, ◌≤◌, true, false, take}
use Rattle.std.specs.Prelude.{count_by}
use Rattle.path_cover.specs.Scattered.{IsScattered}
use Rattle.path_cover.proofs.Sweeping.{Reached, Content, going}
use Rattle.path_cover.proofs.sweep.sweep.Given as goal

abbrev pub invariant-loop-crossing : goal.invariant-loop-crossing
invariant-loop-crossing l = record {
  fits : l.at ≤ l.width;
  downs_small : l.downs ≤ l.crossing-index;
  ups_small : l.ups ≤ l.crossing-index;
  downs : l.downs ≡ count_by (going true) (take l.crossing-index l.crossings);
  ups : l.ups ≡ count_by (going false) (take l.crossing-index l.crossings);
  reached : Reached l.crossings l.crossing-index l.width l.at;
  content : Content l.fn.spans.items l.spans.items l.odd l.row l.width l.at l.crossings;
  place : (height : ℕ) → l.row < height → IsScattered l.width height l.fn.spans.items → IsScattered l.width height l.spans.items;
}
