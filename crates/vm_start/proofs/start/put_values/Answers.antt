use Rattle.std.proofs.Common.{refl}
use Rattle.vm_start.proofs.StartSteps.{put_next}
use Rattle.vm_start.proofs.start.put_values.Goals as goal

pub returns : goal.returns
returns c =
    put_next _ _ _ _ _ _ c.in_ok-put-6.ensures c.literal-4.ensures (put_next _ _ _ _ _ _ c.in_ok-put-5.ensures c.literal-3.ensures (put_next _ _ _ _ _ _ c.in_ok-put-4.ensures c.literal-2.ensures (
    put_next _ _ _ _ _ _ c.in_ok-put_dict-8.ensures refl (put_next _ _ _ _ _ _ c.in_ok-put_dict-7.ensures refl (put_next _ _ _ _ _ _ c.in_ok-put_dict-6.ensures refl (put_next _ _ _ _ _ _ c.in_ok-put_dict-5.ensures refl (
    put_next _ _ _ _ _ _ c.in_ok-put_dict-4.ensures refl (put_next _ _ _ _ _ _ c.in_ok-put_dict-3.ensures refl (put_next _ _ _ _ _ _ c.in_ok-put_dict-2.ensures refl (put_next _ _ _ _ _ _ c.in_ok-put_dict.ensures refl (
    put_next _ _ _ _ _ _ c.in_ok-put-3.ensures c.literal.ensures (put_next _ _ _ _ _ _ c.in_ok-put-2.ensures c.read_only_string-2.ensures (put_next _ _ _ _ _ _ c.in_ok-put.ensures c.read_only_string.ensures refl)))))))))))))
