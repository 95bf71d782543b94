-- What holds of a result, where it is an error and where it is none.
use Rattle.std.specs.Prelude.{Result, Ok, Err, OnOk, OnErr}

pub on_error : {T E : Type 0} (result : Result T E) (P : Type 0) → P → OnErr result P
on_error (Ok value) P holds = tt
on_error (Err error) P holds = holds

pub on_ok : {T E : Type 0} (result : Result T E) (P : Type 0) → P → OnOk result P
on_ok (Ok value) P holds = holds
on_ok (Err error) P holds = tt

pub on_ok_as : {T E : Type 0} (result : Result T E) (P Q : Type 0) → (P → Q) → OnOk result P → OnOk result Q
on_ok_as (Ok value) P Q follows holds = follows holds
on_ok_as (Err error) P Q follows holds = tt

pub on_error_as : {T E : Type 0} (result : Result T E) (P Q : Type 0) → (P → Q) → OnErr result P → OnErr result Q
on_error_as (Ok value) P Q follows holds = tt
on_error_as (Err error) P Q follows holds = follows holds

-- what holds in both cases
pub on_both : {T E : Type 0} (result : Result T E) (P Q R : Type 0) → (P → R) → (Q → R) → OnOk result P → OnErr result Q → R
on_both (Ok value) P Q R first second ok err = first ok
on_both (Err error) P Q R first second ok err = second err
