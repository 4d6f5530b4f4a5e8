use Rattle.std.proofs.Common.{◌∙◌, sym, ap, subst, arith}
use Rattle.atomic_table.specs.Table.{Me, Splits}
use Rattle.commit_places.specs.declared.view.View.{View}
use Rattle.commit_places.specs.Rule.{Kept}
use Rattle.commit_places.specs.Steps.{committer_of, on_committer, committer_splitting, new_hand, sizes_of}
use Rattle.commit_places.specs.declared.view.View.TheVariants.{Hand}
use Rattle.commit_places.specs.Seats.{PlacesId, CommitterState}
use Rattle.commit_places.proofs.Roster.{splits}
use Rattle.commit_places.proofs.places.Places.split.Goals as goal

pub split_seat-seat-requires : goal.split_seat-seat-requires
split_seat-seat-requires g c =
    let it = c.self.inside in
    let seat = c.by.inside.seat in
    let key = it.table.shared.key in
    let here = ap (λ (x : CommitterState). x.places) c.by.view_is ∙ c.requires.places ∙ sym c.self.view_is in
    let a = c.self.invariant in
    let hands = ap (λ (x : CommitterState). x.hands) c.by.view_is in
    let workers = ap (λ (x : PlacesId). x.sizes.workers) (sym c.self.view_is) ∙ ap (λ z. z.workers) (sym a.0) in
    let room = c.requires.some_left in (
      ap (λ (x : PlacesId). x.table) here,
      omega (arith, a.1),
      subst (λ (m : View). Splits (Kept g.T.PieceSpec.right key) seat.id m (on_committer committer_splitting m) (Hand (new_hand (sizes_of m)))) (sym (ap (λ (m : Me _ View). m.0) c.by.invariant))
          (splits g.T.PieceSpec.right key seat.id (committer_of seat.me.0) (omega arith)),
    )
