use Rattle.std.proofs.Common.{◌≡◌, ℕ, ◌+◌, ◌<◌, ◌≤◌, ◌&&◌, ◌||◌, Bool, nat_lt, length, drop}
use Rattle.std.specs.Prelude.{count_by}
use Rattle.ps_shapes.specs.Span.{is_in}
use Rattle.path_cover.specs.Marks.{marks, marked}
use Rattle.path_cover.specs.Scattered.{IsScattered}
use Rattle.path_cover.proofs.scan.walk.Given as goal

abbrev pub invariant-loop-row : goal.invariant-loop-row
invariant-loop-row l = record {
  next : l.next ≤ length l.edges;
  kept : (down : Bool) (x y : ℕ) → l.row ≤ y → count_by (marks down x y) l.active.items + count_by (marks down x y) (drop l.next l.edges) ≡ count_by (marks down x y) l.edges;
  done : (x y : ℕ) → x < l.width → y < l.height → is_in l.spans.items x y ≡ (is_in l.fn.spans.items x y || (nat_lt y l.row && marked l.odd l.edges x y));
  place : IsScattered l.width l.height l.fn.spans.items → IsScattered l.width l.height l.spans.items;
}
