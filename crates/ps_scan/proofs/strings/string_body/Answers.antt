use Rattle.std.proofs.Common.{◌≤◌, ◌+◌, arith}
use Rattle.ps_scan.proofs.StringLemmas.{body_begins, body_closed, body_step, body_cut, depth_grows}
use Rattle.ps_scan.proofs.strings.string_body.Goals as goal

pub pieces-init : goal.pieces-init
pieces-init c = record { within = omega arith; deep = omega arith; long = omega (arith, c.new-limited.ensures.length); read = body_begins _ _ c.new-limited.ensures }

pub returns-then-is_closing-clause-body : goal.returns-then-is_closing-clause-body
returns-then-is_closing-clause-body c =
    body_closed c.pieces.limited c.args.text.now c.pieces.rest.now _ c.pieces.depth c.in-Some.first.now c.in-Some.ensures.cases.0 (cc) c.pieces.invariant.read

pub pieces-smaller : goal.pieces-smaller
pieces-smaller c = omega (arith, c.in-Some.ensures.cases.1)

pub pieces-preserved : goal.pieces-preserved
pieces-preserved c =
    let front = c.in-Some.ensures.cases in
    let deeper : c.depth_after-depth.result ≤ c.pieces.depth + 1 = omega (arith, depth_grows c.in-Some.first.now c.pieces.depth, c.depth_after-depth.ensures) in
    let after = c.split_at.ensures.back_len in
    record {
      within = omega arith;
      deep = omega (arith, front.1, c.pieces.invariant.deep);
      long = omega (arith, front.1, c.pieces.invariant.long, c.in_ok-push_piece.ensures.length);
      read = body_step c.pieces.limited c.push_piece.new.self c.args.text.now c.pieces.rest.now _ c.split_at.result.1.now c.pieces.depth _ c.in-Some.first.now c.piece_length.result c.piece_byte.result
          front.0 (cc) c.piece_byte.ensures c.piece_length.ensures.length c.split_at.ensures.back c.depth_after-depth.ensures c.piece_length.ensures.within c.pieces.invariant.within
          c.in_ok-push_piece.ensures.keeps c.pieces.invariant.read;
    }

pub returns-clause-body : goal.returns-clause-body
returns-clause-body c = body_cut c.pieces.limited c.args.text.now c.pieces.rest.now c.pieces.depth c.in_default.ensures.cases c.pieces.invariant.read
