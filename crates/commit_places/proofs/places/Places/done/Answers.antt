use Rattle.std.proofs.Common.{ℕ, ◌+◌, [], ◌∙◌, sym, ap, subst, arith, max, Option}
use mathlib.Core.Option.{none}
use Rattle.atomic_table.specs.Table.{Me, step, Allows}
use Rattle.commit_places.specs.declared.view.View.{View}
use Rattle.commit_places.specs.Rule.{Kept}
use Rattle.commit_places.specs.Steps.{committer_of, Commits}
use Rattle.commit_places.specs.Seats.{PlacesId, CommitterState}
use Rattle.commit_places.proofs.Counting.{commit_goes}
use Rattle.commit_places.proofs.places.Places.done.Goals as goal

pub fetch_max-requires : goal.fetch_max-requires
fetch_max-requires g c =
    let it = c.self.inside in
    let seat = c.by.inside.seat in
    let key = it.table.shared.key in
    let slots = it.table.shared.table_id.slots in
    let here = ap (λ (x : CommitterState). x.places) c.by.view_is ∙ c.requires.places ∙ sym c.self.view_is in
    let a = c.self.invariant in
    let n : ℕ = c.from.result in
    let know = c.by.view_is in (
      ap (λ (x : PlacesId). x.table) here,
      omega (arith, a.1),
      subst (λ (m : Me (Option g.row.T-Piece.Denot) View). Allows (Kept g.T.PieceSpec.right key) slots seat.id m 1 (λ k. max k n) (Commits (step slots 1 n 0 none) m)) (sym c.by.invariant)
          (commit_goes g.T.PieceSpec.right key slots seat.id (committer_of seat.me.0) [] n
          (c.from.ensures ∙ c.requires.taken.0 ∙ ap (λ (x : CommitterState). x.count + 1) (sym know)) (ap (λ (x : CommitterState). x.next) know ∙ c.requires.taken.1) (ap (λ (x : CommitterState). x.is_stopped) know ∙ c.requires.taken.2)),
    )
