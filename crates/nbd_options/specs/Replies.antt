-- Contract: the bytes of answers.
use Rattle.std.specs.Prelude.{ℕ, Bool, true, false, List, [], ◌++◌}
use Rattle.std.specs.Int.{w16, w32, w64, to_be_bytes}
use Rattle.nbd_wire.specs.Messages.{option_reply_bytes, export_bytes}
use Rattle.nbd_options.specs.declared.export.Export.{Export}
use Rattle.nbd_options.specs.declared.answer.Answer.{Answer}
use Rattle.nbd_options.specs.declared.answer.Answer.TheVariants.{Exported, Closed, Aborted, Listed, Described, Unknown, Invalid}
use Rattle.nbd_options.specs.declared.answer.Answer.TheVariants.{Unsupported, TooBig}
use Rattle.nbd_options.specs.Export.{uuid_text}

-- the flags of transmission: that there are flags (bit 0), and flushes (2), the flag to flush (3), trims (5) and writes of
-- zeros (6)
abbrev pub transmission_flags : ℕ
transmission_flags = 0x6d

-- the information on an export: its size in bytes, and the flags of transmission
abbrev pub export_info : Export → List ℕ
export_info export = to_be_bytes w16 0 ++ to_be_bytes w64 export.size ++ to_be_bytes w16 transmission_flags

-- the information on blocks: the least, the best and the most bytes of a request
abbrev pub block_info : Export → List ℕ
block_info export = to_be_bytes w16 3 ++ to_be_bytes w32 512 ++ to_be_bytes w32 4096 ++ to_be_bytes w32 export.max_transfer

-- the reply with the information on blocks, where it was asked for
abbrev pub block_reply : Export → ℕ → Bool → List ℕ
block_reply export option true = option_reply_bytes option 3 (block_info export)
block_reply export option false = []

-- an export by its name
abbrev pub named_export : Export → List ℕ
named_export export = to_be_bytes w32 36 ++ uuid_text export

-- the last reply of an answer that grants what was asked
abbrev pub acknowledgement : ℕ → List ℕ
acknowledgement option = option_reply_bytes option 1 []

-- what is sent as an answer to an option; `zeroes` says whether zeros come after an export that is entered at once
abbrev pub answer_bytes : Export → (option : ℕ) → (zeroes : Bool) → Answer → List ℕ
answer_bytes export option zeroes Exported = export_bytes export.size transmission_flags zeroes
answer_bytes export option zeroes Closed = []
answer_bytes export option zeroes Aborted = acknowledgement option
answer_bytes export option zeroes Listed = option_reply_bytes option 2 (named_export export) ++ acknowledgement option
answer_bytes export option zeroes (Described enters blocks) =
    option_reply_bytes option 3 (export_info export) ++ block_reply export option blocks ++ acknowledgement option
answer_bytes export option zeroes Unknown = option_reply_bytes option 0x80000006 []
answer_bytes export option zeroes Invalid = option_reply_bytes option 0x80000003 []
answer_bytes export option zeroes Unsupported = option_reply_bytes option 0x80000001 []
answer_bytes export option zeroes TooBig = option_reply_bytes option 0x80000009 []
