use Rattle.std.proofs.Common.{Ok, sym, ap, ◌∙◌}
use Rattle.array_ops.specs.Members.{item_put, byte_put, put}
use Rattle.array_ops.specs.declared.parts.Part.TheVariants as part
use Rattle.array_ops.proofs.Going.{does_as, put_goes}
use Rattle.array_ops.proofs.members.put.Goals as goal

pub returns-in-Items : goal.returns-in-Items
returns-in-Items g c =
    let log = g.M.Mem.log in
    let s = c.args.state.now in
    let a = c.in-Items.array in
    does_as put (λ s. item_put s a) s c.put_item.new.state (log c.args.mem.now) (log c.put_item.new.mem) c.put_item.result
    (put_goes s (part.Items a) (sym c.in_ok-need.ensures) (sym c.in_ok-array.ensures ∙ ap Ok c.in-Items.is)) c.put_item.ensures

pub returns-in-Bytes : goal.returns-in-Bytes
returns-in-Bytes g c =
    let log = g.M.Mem.log in
    let s = c.args.state.now in
    let a = c.in-Bytes.string in
    does_as put (λ s. byte_put s a) s c.put_byte.new.state (log c.args.mem.now) (log c.put_byte.new.mem) c.put_byte.result
    (put_goes s (part.Bytes a) (sym c.in_ok-need.ensures) (sym c.in_ok-array.ensures ∙ ap Ok c.in-Bytes.is)) c.put_byte.ensures
