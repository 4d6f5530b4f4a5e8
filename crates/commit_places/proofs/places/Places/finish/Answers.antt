use Rattle.std.proofs.Common.{◌≡◌, ℕ, ◌<◌, ◌+◌, ◌-◌, [], ◌∷◌, ◌∙◌, sym, ap, subst, arith, mod-lt, refl, Some, None, Option}
use mathlib.Core.Option.{none}
use Rattle.atomic_table.specs.Table.{Me, step, rest, Allows}
use Rattle.commit_places.specs.declared.view.Stage.TheVariants.{Begun}
use Rattle.commit_places.specs.declared.view.Ticket.{Ticket}
use Rattle.commit_places.specs.declared.view.Ticket.TheVariants.{Held}
use Rattle.commit_places.specs.declared.view.View.{View}
use Rattle.commit_places.specs.declared.view.View.TheVariants.{Hand}
use Rattle.commit_places.specs.Rule.{Kept, mark, place_of}
use Rattle.commit_places.specs.Steps.{hand_of, page_of, on_hand, hand_placing, Seizes, Lays}
use Rattle.commit_places.specs.Seats.{PlacesId, HandState}
use Rattle.commit_places.proofs.Laying.{seizes, lays}
use Rattle.commit_places.proofs.places.Places.finish.Goals as goal

pub swap-requires : goal.swap-requires
swap-requires g c =
    let it = c.self.inside in
    let seat = c.hand.inside.seat in
    let h = hand_of seat.me.0 in
    let p = page_of h.ticket in
    let key = it.table.shared.key in
    let slots = it.table.shared.table_id.slots in
    let here = ap (λ (x : HandState). x.places) c.hand.view_is ∙ c.requires.places ∙ sym c.self.view_is in
    let a = c.self.invariant in
    let place : c.place_of-place.result ≡ place_of key.ahead p = c.place_of-place.ensures ∙ ap (λ (x : PlacesId). place_of x.sizes.ahead c.hand.inside.page) (sym c.self.view_is) ∙ (λ i. place_of (sym a.0 i).ahead (c.hand.invariant.1 i)) in
    let ticket = ap (λ (x : HandState). x.ticket) c.hand.view_is in
    let some_place : 0 < key.ahead = subst (λ z. 0 < z.ahead) (sym a.0) a.3 in
    let near : place_of key.ahead p < key.ahead = mod-lt (p - 1) some_place in
    let ahead : key.ahead ≡ it.sizes.ahead = ap (λ z. z.ahead) a.0 in
    let A : ℕ → Me (Option g.row.T-Piece.Denot) View → Type 0 = λ i m. Allows (Kept g.T.PieceSpec.right key) slots seat.id m (i + 2) (λ _. mark) (Seizes (step slots (i + 2) mark 0 none) m) in (
      ap (λ (x : PlacesId). x.table) here,
      omega (arith, a.1, place, near, ahead),
      subst (λ (t : ℕ × Me (Option g.row.T-Piece.Denot) View). A t.0 t.1) (λ i. (sym place i, sym c.hand.invariant.0 i))
          (seizes g.T.PieceSpec.right key slots seat.id h [] (ticket ∙ c.requires.begun ∙ ap (λ (t : Ticket). Held Begun (page_of t)) (sym ticket))),
    )

pub swap-requires-2 : goal.swap-requires-2
swap-requires-2 g c =
    let it = c.self.inside in
    let seat = c.hand.inside.seat in
    let now = c.exchange-before.new.seat in
    let h = hand_of seat.me.0 in
    let p = page_of h.ticket in
    let key = it.table.shared.key in
    let slots = it.table.shared.table_id.slots in
    let here = ap (λ (x : HandState). x.places) c.hand.view_is ∙ c.requires.places ∙ sym c.self.view_is in
    let a = c.self.invariant in
    let r : ℕ = c.place_of-place.result in
    let place : r ≡ place_of key.ahead p = c.place_of-place.ensures ∙ ap (λ (x : PlacesId). place_of x.sizes.ahead c.hand.inside.page) (sym c.self.view_is) ∙ (λ i. place_of (sym a.0 i).ahead (c.hand.invariant.1 i)) in
    let ticket = ap (λ (x : HandState). x.ticket) c.hand.view_is in
    let some_place : 0 < key.ahead = subst (λ z. 0 < z.ahead) (sym a.0) a.3 in
    let near : place_of key.ahead p < key.ahead = mod-lt (p - 1) some_place in
    let ahead : key.ahead ≡ it.sizes.ahead = ap (λ z. z.ahead) a.0 in
    let before = c.swap.ensures.2 ∙ ap (λ (m : Me (Option g.row.T-Piece.Denot) View). (on_hand hand_placing m.0, (r + 2 - 2, None) ∷ m.1)) c.hand.invariant.0 in
    let after : now.me ≡ (Hand (hand_placing h), (place_of key.ahead p, Some c.args.piece) ∷ []) = c.exchange-before.ensures.3 ∙ (λ i. ((before i).0, (place i, Some c.args.piece) ∷ rest (before i).1)) in
    let number : c.from.result ≡ p = c.from.ensures ∙ c.hand.invariant.1 in
    let A : ℕ → ℕ → Me (Option g.row.T-Piece.Denot) View → Type 0 = λ i n m. Allows (Kept g.T.PieceSpec.right key) slots now.id m (i + 2) (λ _. n) (Lays (step slots (i + 2) n 0 none) m) in (
      c.exchange-before.ensures.0 ∙ c.swap.ensures.0 ∙ ap (λ (x : PlacesId). x.table) here,
      omega (arith, a.1, place, near, ahead),
      subst (λ (t : ℕ × ℕ × Me (Option g.row.T-Piece.Denot) View). A t.0 t.1 t.2) (λ i. (sym place i, sym number i, sym after i))
          (lays g.T.PieceSpec.right key slots now.id (hand_placing h) [] p c.args.piece refl (subst (λ (t : Ticket). g.T.PieceSpec.right (page_of t) c.args.piece) (sym ticket) c.requires.right)),
    )
