use Rattle.std.proofs.Common.{◌∙◌, sym, ap, subst, arith}
use Rattle.atomic_table.specs.Table.{Me, Joins}
use Rattle.commit_places.specs.declared.view.View.{View}
use Rattle.commit_places.specs.declared.view.View.TheVariants.{Committer, Joined}
use Rattle.commit_places.specs.Rule.{Kept}
use Rattle.commit_places.specs.Steps.{committer_of, hand_of, on_committer, committer_joining}
use Rattle.commit_places.specs.Seats.{PlacesId, HandState, CommitterState}
use Rattle.commit_places.proofs.Roster.{joins}
use Rattle.commit_places.proofs.places.Places.join.Goals as goal

pub join_seat-requires : goal.join_seat-requires
join_seat-requires g c =
    let it = c.self.inside in
    let seat = c.by.inside.seat in
    let other = c.hand.inside.seat in
    let key = it.table.shared.key in
    let here = ap (λ (x : CommitterState). x.places) c.by.view_is ∙ c.requires.places.0 ∙ sym c.self.view_is in
    let there = ap (λ (x : HandState). x.places) c.hand.view_is ∙ c.requires.places.1 ∙ sym c.self.view_is in
    let a = c.self.invariant in
    let by_is = ap (λ (m : Me _ View). m.0) c.by.invariant in
    let hand_is = ap (λ (m : Me _ View). m.0) c.hand.invariant.0 in (
      ap (λ (x : PlacesId). x.table) here,
      ap (λ (x : PlacesId). x.table) there,
      ap (λ (m : Me _ View). m.1) c.hand.invariant.0,
      omega (arith, a.1),
      subst (λ (m : View). Joins (Kept g.T.PieceSpec.right key) seat.id m other.id other.me.0 (on_committer (committer_joining other.me.0) m) Joined) (sym by_is)
          (subst (λ (n : View). Joins (Kept g.T.PieceSpec.right key) seat.id (Committer (committer_of seat.me.0)) other.id n (Committer (committer_joining n (committer_of seat.me.0))) Joined) (sym hand_is)
          (joins g.T.PieceSpec.right key seat.id (committer_of seat.me.0) other.id (hand_of other.me.0) (ap (λ (x : HandState). x.ticket) c.hand.view_is ∙ c.requires.free))),
    )
