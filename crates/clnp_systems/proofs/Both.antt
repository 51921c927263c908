-- Two facts of an answer.
use Rattle.std.proofs.Common.{Result, Ok, Err, OnOk}

pub on_ok_both : {T E P Q R : Type 0} (r : Result T E) → (P → Q → R) → OnOk r P → OnOk r Q → OnOk r R
on_ok_both (Ok value) f p q = f p q
on_ok_both (Err refused) f p q = tt
