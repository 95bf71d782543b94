-- For this crate's own clauses: what a receipt that keeps no bytes stands for.
use Rattle.std.specs.Prelude.{None}
use Rattle.lsvd_objstore.specs.Store.{ReceiptState}
use Rattle.microbench.specs.declared.receipt.PlainReceipt.{PlainReceipt}

-- an object of this name and this many bytes, which it does not tell
abbrev pub untold_receipt : PlainReceipt → ReceiptState
untold_receipt receipt = record { name = receipt.name; size = receipt.size; told = None }
