-- A plain volume that is cut off after an object knows the payload of each object up to that.
use Rattle.std.proofs.Common.{◌≡◌, ℕ, ◌+◌, ◌-◌, ◌≤◌, ◌∷◌, ◌++◌, List, length, take, drop, get_or, sym, ◌∙◌, ap, arith}
use Rattle.std.proofs.lemmas.List.{length-take, length-take-le, take-append-drop, append_assoc, length-append}
use Rattle.std.proofs.lemmas.List.{get_or_append_left}
use Rattle.lsvd_base.specs.declared.entry.Entry.{Entry}
use Rattle.object_stream.specs.declared.object.StreamObject.{StreamObject}
use Rattle.object_stream.specs.Stream.{end_after, last_number}
use Rattle.object_stream.proofs.StreamLemmas.{follow_first}
use Rattle.plain_disk.specs.State.{PlainState, stream_in, payload_of, payloads_after}
use Rattle.plain_disk.specs.Stops.{cut_to_count}
use Rattle.plain_disk.specs.Valid.{IsPlainVolume}
use Rattle.plain_disk.proofs.EndLemmas.{ends_within}
use Rattle.plain_disk.proofs.FoldLemmas.{payloads_in_parts, payloads_of_first, length-payloads}
use Rattle.refine_mount.specs.Mounted.{end_of_object}

pub payload_of_cut : (plain : PlainState) (number count other : ℕ) → IsPlainVolume plain → plain.number ≤ number
    → number ≤ last_number (stream_in plain) → end_of_object number plain ≤ count → other ≤ number
    → payload_of (cut_to_count number count plain) other ≡ payload_of plain other
payload_of_cut plain number count other valid from most long low =
    let sectors = plain.geometry.sectors in
    let n = number - plain.number in
    let c = count - plain.end in
    let first = take n plain.objects in
    let rest = drop n plain.objects in
    let end = end_after plain.end first in
    let now = payloads_after sectors plain.end plain.entries first in
    let later = payloads_after sectors end (drop (end - plain.end) plain.entries) rest in
    let within = ends_within plain number valid most in
    let inside : end ≤ plain.end + length (take c plain.entries) =
    omega (arith, long, within, length-take c plain.entries) in
    let same : payloads_after sectors plain.end (take c plain.entries) first ≡ now =
    sym (payloads_of_first sectors plain.end (take c plain.entries) (drop c plain.entries) first
    (follow_first plain.end n plain.objects valid.stream.ends) inside)
    ∙ ap (λ (entries : List Entry). payloads_after sectors plain.end entries first) (take-append-drop c plain.entries) in
    let whole : plain.payloads ++ payloads_after sectors plain.end plain.entries plain.objects
    ≡ (plain.payloads ++ now) ++ later =
    ap (λ (list : List StreamObject). plain.payloads ++ payloads_after sectors plain.end plain.entries list)
    (sym (take-append-drop n plain.objects))
    ∙ (ap (λ list. plain.payloads ++ list) (payloads_in_parts sectors plain.end plain.entries first rest
    (follow_first plain.end n plain.objects valid.stream.ends)) ∙ sym (append_assoc plain.payloads now later)) in
    let known = length-append plain.payloads now in
    let size = length-payloads sectors plain.end plain.entries first in
    let taken = length-take-le n plain.objects (omega (arith, most)) in
    ap (λ list. get_or (0 ∷ (plain.payloads ++ list)) other 0) same
    ∙ sym (ap (λ list. get_or (0 ∷ list) other 0) whole
    ∙ get_or_append_left (0 ∷ (plain.payloads ++ now)) later 0 other (omega (arith, known, size, taken, valid.payloads, low)))
