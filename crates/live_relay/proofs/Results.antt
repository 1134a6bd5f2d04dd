-- Results that are refusals.
use Rattle.std.proofs.Common.{Result, Ok, Err, OnErr, IfOk}

pub on_err_any : {T E : Type 0} (P : Type 0) (r : Result T E) → P → OnErr r P
on_err_any P (Ok x) p = tt
on_err_any P (Err e) p = p

pub if_ok_two : {T E : Type 0} (P Q R : T → Type 0) (r : Result T E) → IfOk r P → IfOk r Q
    → ((x : T) → P x → Q x → R x) → IfOk r R
if_ok_two P Q R (Ok x) p q f = f x p q
if_ok_two P Q R (Err e) p q f = tt
