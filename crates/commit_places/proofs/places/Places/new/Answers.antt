use Rattle.std.proofs.Common.{ℕ, replicate, List, ◌∙◌, sym, ap, subst, arith, None, Option}
use Rattle.atomic_table.specs.Table.{Me, Splits, opening}
use Rattle.commit_places.specs.declared.view.Sizes.{Sizes}
use Rattle.commit_places.specs.declared.view.View.{View}
use Rattle.commit_places.specs.declared.view.View.TheVariants.{Committer, Hand}
use Rattle.commit_places.specs.Rule.{Kept}
use Rattle.commit_places.specs.Steps.{first_committer, on_committer, committer_splitting, new_hand, sizes_of}
use Rattle.commit_places.proofs.Roster.{opens, splits}
use Rattle.commit_places.proofs.places.Places.new.Goals as goal

pub vacant-requires : goal.vacant-requires
vacant-requires g c =
    let sizes : Sizes = record { pages = c.args.pages; ahead = c.args.ahead; workers = c.args.workers } in
    let zeros = c.as_slice.ensures.value ∙ c.in_ok-words.ensures.items_if_clones_equal (λ y same. same) in
    subst (λ (ws : List ℕ). Kept g.T.PieceSpec.right sizes (opening ws (replicate c.args.ahead None) (Committer (first_committer sizes)))) (sym zeros) (opens g.T.PieceSpec.right sizes c.requires.some_place c.requires.small)

pub split_seat-hand-requires : goal.split_seat-hand-requires
split_seat-hand-requires g c =
    let sizes : Sizes = record { pages = c.args.pages; ahead = c.args.ahead; workers = c.args.workers } in
    let t = c.in_ok-table in
    let key = t.table.shared.key in
    let len = c.as_slice.ensures.len in
    let words = c.in_ok-words.ensures.len in
    let own = t.ensures in (
      own.2,
      omega (arith, own.0),
      subst (λ (m : View). Splits (Kept g.T.PieceSpec.right key) t.seat.id m (on_committer committer_splitting m) (Hand (new_hand (sizes_of m)))) (sym (ap (λ (m : Me (Option g.row.T-Piece.Denot) View). m.0) own.4))
          (splits g.T.PieceSpec.right key t.seat.id (first_committer sizes) (omega arith)),
    )
