use Rattle.std.proofs.Common.{[], ◌∙◌, sym, ap, subst, arith, Option}
use mathlib.Core.Option.{none}
use Rattle.atomic_table.specs.Table.{Me, step, Allows}
use Rattle.commit_places.specs.declared.view.View.{View}
use Rattle.commit_places.specs.declared.view.Stage.TheVariants.{Drawn}
use Rattle.commit_places.specs.declared.view.Ticket.{Ticket}
use Rattle.commit_places.specs.declared.view.Ticket.TheVariants.{Held}
use Rattle.commit_places.specs.Rule.{Kept}
use Rattle.commit_places.specs.Steps.{hand_of, page_of, Looks}
use Rattle.commit_places.specs.Seats.{PlacesId, HandState}
use Rattle.commit_places.proofs.Looking.{looks}
use Rattle.commit_places.proofs.places.Places.ready.Goals as goal

pub load-found-requires : goal.load-found-requires
load-found-requires g c =
    let it = c.self.inside in
    let seat = c.hand.inside.seat in
    let key = it.table.shared.key in
    let slots = it.table.shared.table_id.slots in
    let here = ap (λ (x : HandState). x.places) c.hand.view_is ∙ c.requires.places ∙ sym c.self.view_is in
    let a = c.self.invariant in
    let ticket = ap (λ (x : HandState). x.ticket) c.hand.view_is in (
      ap (λ (x : PlacesId). x.table) here,
      omega (arith, a.1),
      subst (λ (m : Me (Option g.row.T-Piece.Denot) View). Allows (Kept g.T.PieceSpec.right key) slots seat.id m 1 (λ n. n) (Looks (step slots 1 0 0 none) m)) (sym c.hand.invariant.0)
          (looks g.T.PieceSpec.right key slots seat.id (hand_of seat.me.0) [] (ticket ∙ c.requires.drawn ∙ ap (λ (t : Ticket). Held Drawn (page_of t)) (sym ticket)) (ap (λ (x : PlacesId). x.sizes) here ∙ sym a.0)),
    )
