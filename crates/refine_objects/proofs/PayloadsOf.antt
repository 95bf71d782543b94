-- How many sectors of payload the objects of a plain volume have, while entries and objects come.
use Rattle.std.proofs.Common.{◌≡◌, ℕ, ◌+◌, ◌-◌, ◌≤◌, List, [], ◌∷◌, ◌++◌, get_or, length, take, drop, sym, ◌∙◌, ap, subst}
use Rattle.std.proofs.Common.{arith}
use Rattle.std.proofs.lemmas.List.{take_all, take-append-drop, length-take, append_assoc, length-append, get_or_append_left}
use Rattle.std.proofs.lemmas.List.{get_or-append_right}
use Rattle.lsvd_base.specs.declared.entry.Entry.{Entry}
use Rattle.object_stream.specs.declared.object.StreamObject.{StreamObject}
use Rattle.object_stream.specs.Stream.{end_after, end_at, last_number}
use Rattle.object_stream.specs.Laws.{from_object}
use Rattle.object_stream.proofs.StreamLemmas.{follow_first}
use Rattle.plain_disk.specs.State.{PlainState, stream_in, payloads_after, payload_of}
use Rattle.plain_disk.specs.Valid.{IsPlainVolume}
use Rattle.plain_disk.proofs.FoldLemmas.{payloads_in_parts, payloads_of_first, length-payloads}

-- entries more change none
pub payload_with_entries : (plain : PlainState) (more : List Entry) (number : ℕ) → IsPlainVolume plain
    → payload_of (record plain { entries = plain.entries ++ more }) number ≡ payload_of plain number
payload_with_entries plain more number valid =
    let whole : take (last_number (stream_in plain) - plain.number) plain.objects ≡ plain.objects =
    take_all (last_number (stream_in plain) - plain.number) plain.objects (omega arith) in
    let last : end_after plain.end plain.objects ≤ plain.end + length plain.entries =
    subst (λ list. end_after plain.end list ≤ plain.end + length plain.entries) whole valid.stream.within in
    ap (λ list. get_or (0 ∷ (plain.payloads ++ list)) number 0)
    (payloads_of_first plain.geometry.sectors plain.end plain.entries more plain.objects valid.stream.ends last)

-- an object more changes none of those before it
pub payload_with_object : (plain : PlainState) (object : StreamObject) (number : ℕ) → IsPlainVolume plain
    → number ≤ last_number (stream_in plain)
    → payload_of (record plain { objects = plain.objects ++ object ∷ [] }) number ≡ payload_of plain number
payload_with_object plain object number valid sealed =
    let sectors = plain.geometry.sectors in
    let now = payloads_after sectors plain.end plain.entries plain.objects in
    let last = end_after plain.end plain.objects in
    let one = payloads_after sectors last (drop (last - plain.end) plain.entries) (object ∷ []) in
    let whole : plain.payloads ++ payloads_after sectors plain.end plain.entries (plain.objects ++ object ∷ [])
    ≡ (plain.payloads ++ now) ++ one =
    ap (λ list. plain.payloads ++ list) (payloads_in_parts sectors plain.end plain.entries plain.objects (object ∷ [])
    valid.stream.ends) ∙ sym (append_assoc plain.payloads now one) in
    let known = length-append plain.payloads now in
    let size = length-payloads sectors plain.end plain.entries plain.objects in
    ap (λ list. get_or (0 ∷ list) number 0) whole
    ∙ get_or_append_left (0 ∷ (plain.payloads ++ now)) one 0 number (omega (arith, known, size, valid.payloads, sealed))

-- past a number that the volume opens after, or a later one, each object has that of its place
pub payload_past : (plain : PlainState) (from i : ℕ) → IsPlainVolume plain → plain.number ≤ from
    → from ≤ last_number (stream_in plain)
    → payload_of plain (from + 1 + i)
    ≡ get_or (payloads_after plain.geometry.sectors (end_at (stream_in plain) from) (from_object from (stream_in plain)).entries
    (from_object from (stream_in plain)).objects) i 0
payload_past plain from i valid low high =
    let sectors = plain.geometry.sectors in
    let count = from - plain.number in
    let first = take count plain.objects in
    let rest = drop count plain.objects in
    let end = end_after plain.end first in
    let now = payloads_after sectors plain.end plain.entries first in
    let later = payloads_after sectors end (drop (end - plain.end) plain.entries) rest in
    let whole : plain.payloads ++ payloads_after sectors plain.end plain.entries plain.objects
    ≡ (plain.payloads ++ now) ++ later =
    ap (λ list. plain.payloads ++ payloads_after sectors plain.end plain.entries list)
    (sym (take-append-drop count plain.objects))
    ∙ (ap (λ list. plain.payloads ++ list) (payloads_in_parts sectors plain.end plain.entries first rest
    (follow_first plain.end count plain.objects valid.stream.ends)) ∙ sym (append_assoc plain.payloads now later)) in
    let known = length-append plain.payloads now in
    let size = length-payloads sectors plain.end plain.entries first in
    let taken = length-take count plain.objects in
    let before : length (0 ∷ (plain.payloads ++ now)) ≡ from + 1 =
    omega (arith, known, size, taken, valid.payloads, low, high) in
    let index : from + 1 + i - (from + 1) ≡ i = omega arith in
    ap (λ list. get_or (0 ∷ list) (from + 1 + i) 0) whole
    ∙ (get_or-append_right (0 ∷ (plain.payloads ++ now)) later (from + 1) (from + 1 + i) 0 before (omega arith)
    ∙ ap (λ k. get_or later k 0) index)
