use Rattle.std.proofs.Common.{◌+◌, ◌%◌, ◌^◌, [], ◌∙◌, sym, ap, subst, arith, Option}
use mathlib.Core.Option.{none}
use Rattle.atomic_table.specs.Table.{Me, step, Allows}
use Rattle.commit_places.specs.declared.view.View.{View}
use Rattle.commit_places.specs.Rule.{Kept}
use Rattle.commit_places.specs.Steps.{hand_of, Draws}
use Rattle.commit_places.specs.Seats.{PlacesId, HandState}
use Rattle.commit_places.proofs.Drawing.{draws}
use Rattle.commit_places.proofs.places.Places.draw.Goals as goal

pub fetch_add-last-requires : goal.fetch_add-last-requires
fetch_add-last-requires g c =
    let it = c.self.inside in
    let seat = c.hand.inside.seat in
    let key = it.table.shared.key in
    let slots = it.table.shared.table_id.slots in
    let here = ap (λ (x : HandState). x.places) c.hand.view_is ∙ c.requires.places ∙ sym c.self.view_is in
    let a = c.self.invariant in (
      ap (λ (x : PlacesId). x.table) here,
      omega (arith, a.1),
      subst (λ (m : Me (Option g.row.T-Piece.Denot) View). Allows (Kept g.T.PieceSpec.right key) slots seat.id m 0 (λ n. (n + 1) % 2 ^ 64) (Draws (step slots 0 1 0 none) m)) (sym c.hand.invariant.0)
          (draws g.T.PieceSpec.right key slots seat.id (hand_of seat.me.0) [] (ap (λ (x : HandState). x.ticket) c.hand.view_is ∙ c.requires.free.0) (ap (λ (x : HandState). x.is_over) c.hand.view_is ∙ c.requires.free.1) (ap (λ (x : PlacesId). x.sizes) here ∙ sym a.0)),
    )
