use Rattle.std.proofs.Common.{◌≡◌, ℕ, ◌<◌, ◌≤◌, ◌+◌, ◌-◌, ◌==◌, [], ◌∷◌, ◌∙◌, sym, ap, subst, arith, mod-lt, eq-eqb, Bool, refl, Some, None, Option}
use Rattle.std.specs.Prelude.{MatchBool}
use mathlib.Core.Option.{none}
use prog.Atomic.{either}
use Rattle.atomic_table.specs.Table.{Me, step, rest, Allows}
use Rattle.commit_places.specs.declared.view.Next.TheVariants.{Taking}
use Rattle.commit_places.specs.declared.view.CommitterView.{CommitterView}
use Rattle.commit_places.specs.declared.view.View.{View}
use Rattle.commit_places.specs.declared.view.View.TheVariants.{Committer}
use Rattle.commit_places.specs.Rule.{Kept, mark, place_of}
use Rattle.commit_places.specs.Steps.{committer_of, on_committer, Takes, Clears}
use Rattle.commit_places.specs.Seats.{PlacesId, CommitterState}
use Rattle.commit_places.proofs.Taking.{take_goes, clears}
use Rattle.commit_places.proofs.places.Places.take.Goals as goal

pub compare_exchange-found-requires : goal.compare_exchange-found-requires
compare_exchange-found-requires g c =
    let it = c.self.inside in
    let seat = c.by.inside.seat in
    let key = it.table.shared.key in
    let slots = it.table.shared.table_id.slots in
    let here = ap (λ (x : CommitterState). x.places) c.by.view_is ∙ c.requires.places ∙ sym c.self.view_is in
    let a = c.self.invariant in
    let p : ℕ = c.from-number.result in
    let place : c.place_of-place.result ≡ place_of key.ahead p = c.place_of-place.ensures ∙ ap (λ (x : PlacesId). place_of x.sizes.ahead c.args.page) (sym c.self.view_is) ∙ (λ i. place_of (sym a.0 i).ahead (sym c.from-number.ensures i)) in
    let some_place : 0 < key.ahead = subst (λ z. 0 < z.ahead) (sym a.0) a.3 in
    let near : place_of key.ahead p < key.ahead = mod-lt (p - 1) some_place in
    let ahead : key.ahead ≡ it.sizes.ahead = ap (λ z. z.ahead) a.0 in
    let next = c.requires.next in
    let pages : (committer_of seat.me.0).sizes.pages ≡ key.pages = ap (λ (x : PlacesId). x.sizes.pages) here ∙ ap (λ z. z.pages) (sym a.0) in
    let room : p ≤ key.pages = subst (λ (n : ℕ). p ≤ n) (ap (λ (x : CommitterState). x.places.sizes.pages) (sym c.by.view_is) ∙ pages) (subst (λ (n : ℕ). n ≤ c.args.by.now.places.sizes.pages) (sym c.from-number.ensures) next.1) in
    let A : ℕ → Me (Option g.row.T-Piece.Denot) View → Type 0 = λ i m. Allows (Kept g.T.PieceSpec.right key) slots seat.id m (i + 2) (λ n. either (n == p) mark n) (Takes g.T.PieceSpec.right (step slots (i + 2) p mark none) m) in (
      ap (λ (x : PlacesId). x.table) here,
      omega (arith, a.1, place, near, ahead),
      subst (λ (t : ℕ × Me (Option g.row.T-Piece.Denot) View). A t.0 t.1) (λ i. (sym place i, sym c.by.invariant i))
          (take_goes g.T.PieceSpec.right key slots seat.id (committer_of seat.me.0) [] p (c.from-number.ensures ∙ next.0 ∙ ap (λ (x : CommitterState). x.count + 1) (sym c.by.view_is)) room),
    )

pub exchange-piece-requires : goal.exchange-piece-requires
exchange-piece-requires g c =
    let it = c.self.inside in
    let seat = c.by.inside.seat in
    let slots = it.table.shared.table_id.slots in
    let here = ap (λ (x : CommitterState). x.places) c.by.view_is ∙ c.requires.places ∙ sym c.self.view_is in
    let r : ℕ = c.place_of-place.result in
    let p : ℕ = c.from-number.result in
    let new = c.compare_exchange-found.new.seat in
    let S : Type 0 = Option g.row.T-Piece.Denot in
    let took : (piece : g.row.T-Piece.Denot) × g.T.PieceSpec.right p piece × ◌≡◌ {A = Me S View} new.me (on_committer (λ view. record view { next = Taking }) seat.me.0, (r + 2 - 2, Some piece) ∷ seat.me.1) =
    subst (λ (t : Bool). MatchBool t ((piece : g.row.T-Piece.Denot) × g.T.PieceSpec.right p piece × ◌≡◌ {A = Me S View} new.me (on_committer (λ view. record view { next = Taking }) seat.me.0, (r + 2 - 2, Some piece) ∷ seat.me.1)) (◌≡◌ {A = Me S View} new.me seat.me)) (eq-eqb _ _ c.if-found-number.false) c.compare_exchange-found.ensures.2 in
    let back : r + 2 - 2 ≡ r = omega arith in (
      c.compare_exchange-found.ensures.0 ∙ ap (λ (x : PlacesId). x.table) here,
      (Some took.0, ap (λ (m : Me S View). m.1) took.2 ∙ (λ i. (back i, Some took.0) ∷ rest (sym (ap (λ (m : Me S View). m.1) took.2) i))),
    )

pub swap-requires : goal.swap-requires
swap-requires g c =
    let it = c.self.inside in
    let seat = c.by.inside.seat in
    let key = it.table.shared.key in
    let slots = it.table.shared.table_id.slots in
    let here = ap (λ (x : CommitterState). x.places) c.by.view_is ∙ c.requires.places ∙ sym c.self.view_is in
    let a = c.self.invariant in
    let r : ℕ = c.place_of-place.result in
    let p : ℕ = c.from-number.result in
    let b : CommitterView = committer_of seat.me.0 in
    let new = c.compare_exchange-found.new.seat in
    let now = c.exchange-piece.new.seat in
    let S : Type 0 = Option g.row.T-Piece.Denot in
    let took : (piece : g.row.T-Piece.Denot) × g.T.PieceSpec.right p piece × ◌≡◌ {A = Me S View} new.me (on_committer (λ view. record view { next = Taking }) seat.me.0, (r + 2 - 2, Some piece) ∷ seat.me.1) =
    subst (λ (t : Bool). MatchBool t ((piece : g.row.T-Piece.Denot) × g.T.PieceSpec.right p piece × ◌≡◌ {A = Me S View} new.me (on_committer (λ view. record view { next = Taking }) seat.me.0, (r + 2 - 2, Some piece) ∷ seat.me.1)) (◌≡◌ {A = Me S View} new.me seat.me)) (eq-eqb _ _ c.if-found-number.false) c.compare_exchange-found.ensures.2 in
    let place : r ≡ place_of key.ahead p = c.place_of-place.ensures ∙ ap (λ (x : PlacesId). place_of x.sizes.ahead c.args.page) (sym c.self.view_is) ∙ (λ i. place_of (sym a.0 i).ahead (sym c.from-number.ensures i)) in
    let some_place : 0 < key.ahead = subst (λ z. 0 < z.ahead) (sym a.0) a.3 in
    let near : place_of key.ahead p < key.ahead = mod-lt (p - 1) some_place in
    let ahead : key.ahead ≡ it.sizes.ahead = ap (λ z. z.ahead) a.0 in
    let before : ◌≡◌ {A = Me S View} new.me (Committer (record b { next = Taking }), (r + 2 - 2, Some took.0) ∷ []) = took.2 ∙ ap (λ (m : Me S View). (on_committer (λ view. record view { next = Taking }) m.0, (r + 2 - 2, Some took.0) ∷ m.1)) c.by.invariant in
    let after : ◌≡◌ {A = Me S View} now.me (Committer (record b { next = Taking }), (place_of key.ahead p, None) ∷ []) = c.exchange-piece.ensures.3 ∙ (λ i. ((before i).0, (place i, None) ∷ rest (before i).1)) in
    let A : ℕ → Me S View → Type 0 = λ i m. Allows (Kept g.T.PieceSpec.right key) slots now.id m (i + 2) (λ _. 0) (Clears (step slots (i + 2) 0 0 none) m) in (
      c.exchange-piece.ensures.0 ∙ c.compare_exchange-found.ensures.0 ∙ ap (λ (x : PlacesId). x.table) here,
      omega (arith, a.1, place, near, ahead),
      subst (λ (t : ℕ × Me S View). A t.0 t.1) (λ i. (sym place i, sym after i))
          (clears g.T.PieceSpec.right key slots now.id (record b { next = Taking }) [] p (c.from-number.ensures ∙ c.requires.next.0 ∙ ap (λ (x : CommitterState). x.count + 1) (sym c.by.view_is)) refl),
    )
