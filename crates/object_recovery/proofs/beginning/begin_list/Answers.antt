use Rattle.std.proofs.Common.{◌≡◌, ℕ, ◌<◌, Option, List, [], ◌++◌, length, take, drop, refl, sym, ◌∙◌, ap}
use Rattle.std.proofs.Common.{subst}
use Rattle.std.proofs.Common.{arith, false}
use Rattle.std.specs.Prelude.{IfSome, ◌⊎◌}
use Rattle.std.proofs.lemmas.Bool.Decides.{nat_tests}
use Rattle.std.proofs.lemmas.List.{take-append-le, take_all}
use Rattle.extent_map.specs.declared.extent.Extent.{Extent}
use Rattle.lsvd_names.specs.Names.{numbered_name}
use Rattle.lsvd_fault.specs.Faults.{Counts}
use Rattle.lsvd_objstore.specs.Objects.{Objects, Lists}
use Rattle.lsvd_objstore.specs.Store.{StoreState}
use Rattle.object_format.specs.declared.expected.Expected.{Expected}
use Rattle.object_table.specs.Table.{IsNewest}
use Rattle.ckpt_format.specs.declared.place.StoredPlace.{StoredPlace}
use Rattle.ckpt_format.specs.Checkpoint.{IsCheckpoint}
use Rattle.object_uploads.specs.State.{UploadsState}
use Rattle.object_uploads.specs.Order.{IsUploads}
use Rattle.object_uploads.specs.Opening.{HasBegun}
use Rattle.object_stream.specs.Replay.{object_name}
use Rattle.obj_log.specs.State.{ObjLogState}
use Rattle.stopped_volume.specs.Ancestors.{uuid_in_chain}
use Rattle.stopped_volume.specs.Expected.{expected_alone}
use Rattle.stopped_volume.specs.Store.{TellsBytes}
use Rattle.object_recovery.specs.Checkpoints.{expected_of, ReadCheckpoint, IsStoredCheckpoint}
use Rattle.object_recovery.specs.declared.error.RecoverError.TheVariants as errors
use Rattle.object_recovery.specs.Recovery.{IsListUpTo}
use Rattle.object_recovery.specs.Faults.{IsNoAnswer, ends_by_fault, is_store_fault}
use Rattle.object_recovery.specs.Beginning.{HasTakenUp, HasRows, BeginsInStore}
use Rattle.object_recovery.specs.Inherited.{AreNamedBy, HasInherited, HasAllInherited, LacksOwn, LacksInherited}
use Rattle.object_recovery.specs.Earlier.{EarlierObject, AreEarlier, AreAllEarlier, AreSameObjects, ReachAll, NamesNone}
use Rattle.object_recovery.proofs.EarlierLemmas.{Ascend, same_length, earlier_same, tells_same, all_earlier_same}
use Rattle.object_recovery.proofs.FindLemmas.{same_store, passed_on, passed_as}
use Rattle.object_recovery.proofs.FoundPlaces.{told_at}
use Rattle.object_recovery.proofs.PlaceLemmas.{so_some}
use Rattle.object_recovery.proofs.TakenLists.{list_same}
use Rattle.object_recovery.proofs.BegunLemmas.{HasBegunWith, rows_begun, all_begun, may_map, newest_checkpoint}
use Rattle.object_recovery.proofs.BegunTable.{ListsTable, none_begun, all_passed}
use Rattle.object_recovery.proofs.BeginLemmas.{rows_stand, none_taken, absent_told, some_lacking, begins_list, begins_in_store}
use Rattle.object_recovery.proofs.beginning.begin_list.Given as given
use Rattle.object_recovery.proofs.beginning.begin_list.Goals.{then-number-ne0+in_ok-begin, else-number-ne0, After-log-1}
use Rattle.object_recovery.proofs.beginning.begin_list.Goals.{After-expected-2-1, After-expected-3-1, After-uploads_mut}
use Rattle.object_recovery.proofs.beginning.begin_list.Goals.{After-drop-bytes-2}
use Rattle.object_recovery.proofs.beginning.begin_list.Goals as goal

-- ---- what the checkpoint is

-- the bytes that are read are the checkpoint's, and it is expected under its own number
as_read : (bytes other : List ℕ) (expected named : Expected) (end : ℕ)
    (rows : List (Extent StoredPlace)) → other ≡ bytes → expected ≡ named
    → IsCheckpoint bytes named end rows → IsCheckpoint other expected end rows
as_read bytes other expected named end rows same_bytes same is =
    subst (λ b. IsCheckpoint b expected end rows) (sym same_bytes)
    (subst (λ e. IsCheckpoint bytes e end rows) (sym same) is)

pub reach_all-requires-clause-order : goal.reach_all-requires-clause-order
reach_all-requires-clause-order g c = subst Ascend (sym c.as_mut_slice.ensures.value) c.in_ok-earlier.ensures.earlier.order

pub returns-in-Some-clause-begins : goal.returns-in-Some-clause-begins
returns-in-Some-clause-begins g c = λ tells.
    let uuid = c.args.uuid in
    let geometry = c.args.geometry in
    let view = c.checkpoint.view_is in
    let items = c.in_ok-earlier.earlier.items in
    let named = c.in-Some.number in
    let told = (g.S.Store.state c.args.store.now).objects in
    let checkpoint = c.args.checkpoint in
    let chain = c.args.chain.now in
    let volume = expected_of uuid geometry (length chain) in
    let number_is : c.checkpoint.inside.number ≡ checkpoint.number = ap (λ (k : ReadCheckpoint). k.number) view in
    let all = subst (λ n. IfSome told (λ objects. Lists uuid objects c.args.names.now → AreAllEarlier uuid objects n items))
    number_is c.in_ok-earlier.ensures.all in
    let bytes_are = c.as_slice.ensures.value ∙ ap (λ (k : ReadCheckpoint). k.bytes) view in
    let expected_is = c.expected_alone-expected.ensures
    ∙ ap (λ n. expected_alone (expected_of uuid geometry n) c.checkpoint.inside.number) c.count-ancestors.ensures.count
    ∙ ap (expected_alone volume) number_is in
    absent_told uuid geometry chain checkpoint.number c.args.names.now checkpoint.bytes items told named all (λ end rows is.
    subst (λ list. NamesNone rows list named) c.as_mut_slice.ensures.value
    (c.in-Some.ensures.missing end rows (as_read checkpoint.bytes _ _ _ end rows bytes_are expected_is is)))

-- ---- the objects before it

-- the new list has none
pub take_all-requires-clause-new : goal.take_all-requires-clause-new
take_all-requires-clause-new g c =
    let e = c.new-log.ensures in
    let log = c.new-log.result in
    let geometry = c.args.geometry in
    let number = c.checkpoint.inside.number in
    let end = c.checkpoint.inside.end in
    let ancestors = log.uploads.ancestors in
    let raw = none_taken c.args.uuid geometry ancestors number end log e.batch e.uuid refl e.sectors e.window e.frontier e.end
    e.sealed e.receipts e.removal e.settled e.log e.objects e.checkpoint in
    subst (λ n. HasTakenUp log.uploads.uuid geometry ancestors n log.uploads.queue.end [] log) (sym e.frontier)
    (subst (λ x. HasTakenUp log.uploads.uuid geometry ancestors number x [] log) (sym e.end)
    (subst (λ u. HasTakenUp u geometry ancestors number end [] log) (sym e.uuid) raw))

-- the objects are those that were found, with their reaches
same_objects : (g : given.Over) (c : After-log-1 g)
    → AreSameObjects c.in_ok-earlier.earlier.items c.reach_all.new.earlier
same_objects g c =
    subst (λ list. AreSameObjects list c.reach_all.new.earlier) c.as_mut_slice.ensures.value c.in_default.ensures.same

list_is : (len : ℕ) (items new : List EarlierObject) → len ≡ length items → AreSameObjects items new
    → take len (new ++ drop (length new) items) ≡ new
list_is len items new size same =
    let of = same_length items new same in
    take-append-le len new (drop (length new) items) (omega (arith, size, of)) ∙ take_all len new (omega (arith, size, of))

earlier_are : (g : given.Over) (c : After-log-1 g)
    → AreEarlier c.args.uuid c.checkpoint.inside.number c.reach_all.new.earlier
earlier_are g c =
    earlier_same c.in_ok-earlier.earlier.items c.reach_all.new.earlier (same_objects g c) c.args.uuid c.checkpoint.inside.number
    c.in_ok-earlier.ensures.earlier

pub take_all-requires-clause-earlier : goal.take_all-requires-clause-earlier
take_all-requires-clause-earlier g c =
    let at = (goal.at.take_all-requires-clause-earlier g c).After-log-1 in
    let e = c.new-log.ensures in
    let new = c.reach_all.new.earlier in
    let items = c.in_ok-earlier.earlier.items in
    let log = c.new-log.result in
    let is = list_is c.in_ok-earlier.earlier.len items new c.in_ok-earlier.earlier.ok.0 (same_objects g at) in
    subst (AreEarlier log.uploads.uuid log.uploads.queue.frontier) (sym is)
    (subst (λ n. AreEarlier log.uploads.uuid n new) (sym e.frontier)
    (subst (λ u. AreEarlier u c.checkpoint.inside.number new) (sym e.uuid) (earlier_are g at)))

pub returns-in_err-taken-clause-answer : goal.returns-in_err-taken-clause-answer
returns-in_err-taken-clause-answer g c =
    passed_on IsNoAnswer c.from_residual-in_err-taken.result c.in_err-taken.field-0.0 c.from_residual-in_err-taken.ensures.1
    c.in_err-taken.ensures.answer

pub returns-in_err-taken-clause-faults : goal.returns-in_err-taken-clause-faults
returns-in_err-taken-clause-faults g c =
    let old = g.S.Store.state c.args.store.now in
    let middle = g.S.Store.state c.find_earlier.new.store in
    let new = g.S.Store.state c.take_all.new.store in
    let error = c.in_err-taken.field-0.0 in
    let same = same_store old middle c.in_ok-earlier.ensures.unchanged c.in_ok-earlier.ensures.faults in
    passed_as (λ outcome. Counts (ends_by_fault outcome) old.faults new.faults) c.from_residual-in_err-taken.result error
    c.from_residual-in_err-taken.ensures.1
    (subst (λ (s : StoreState). Counts (is_store_fault error) s.faults new.faults) same c.in_err-taken.ensures.faults)

-- the checkpoint is expected under its own number
expected_is : (g : given.Over) (c : After-log-1 g)
    → c.expected_alone-expected.result
    ≡ expected_alone (expected_of c.args.uuid c.args.geometry (length c.args.chain.now)) c.args.checkpoint.number
expected_is g c =
    let uuid = c.args.uuid in
    let geometry = c.args.geometry in
    let volume = expected_of uuid geometry (length c.args.chain.now) in
    c.expected_alone-expected.ensures
    ∙ ap (λ n. expected_alone (expected_of uuid geometry n) c.checkpoint.inside.number) c.count-ancestors.ensures.count
    ∙ ap (λ (k : ReadCheckpoint). expected_alone volume k.number) c.checkpoint.view_is

-- how far the checkpoint's rows reach in them
reached_by_rows : (g : given.Over) (c : After-log-1 g) (end : ℕ) (rows : List (Extent StoredPlace))
    → IsCheckpoint c.args.checkpoint.bytes
    (expected_alone (expected_of c.args.uuid c.args.geometry (length c.args.chain.now)) c.args.checkpoint.number) end rows
    → ReachAll rows c.reach_all.new.earlier
reached_by_rows g c end rows is =
    let view = c.checkpoint.view_is in
    let bytes_are = c.as_slice.ensures.value ∙ ap (λ (k : ReadCheckpoint). k.bytes) view in
    c.in_default.ensures.all end rows (as_read c.args.checkpoint.bytes _ _ _ end rows bytes_are (expected_is g c) is)

-- the search for them changed nothing
same_before : (g : given.Over) (c : After-log-1 g)
    → g.S.Store.state c.find_earlier.new.store ≡ g.S.Store.state c.args.store.now
same_before g c =
    same_store (g.S.Store.state c.args.store.now) (g.S.Store.state c.find_earlier.new.store) c.in_ok-earlier.ensures.unchanged
    c.in_ok-earlier.ensures.faults

-- as many ancestors as the chain has
ancestors_are : (g : given.Over) (c : After-expected-2-1 g) → c.new-log.result.uploads.ancestors ≡ length c.args.chain.now
ancestors_are g c = c.new-log.ensures.ancestors ∙ c.count-ancestors.ensures.count

-- they were taken up
taken_up : (g : given.Over) (c : After-expected-3-1 g)
    → HasTakenUp c.args.uuid c.args.geometry (length c.args.chain.now) c.checkpoint.inside.number c.checkpoint.inside.end
    c.reach_all.new.earlier c.take_all.new.log
taken_up g c =
    let at = (goal.at.map_rows-requires-clause-checkpoint g c).After-log-1 in
    let e = c.new-log.ensures in
    let geometry = c.args.geometry in
    let number = c.checkpoint.inside.number in
    let end = c.checkpoint.inside.end in
    let log = c.take_all.new.log in
    let new = c.reach_all.new.earlier in
    let first = c.new-log.result.uploads in
    let list = list_is c.in_ok-earlier.earlier.len c.in_ok-earlier.earlier.items new c.in_ok-earlier.earlier.ok.0
    (same_objects g at) in
    let raw = (rw c.in-Taken.is at c.in_ok-taken.ensures.taken).0 in
    subst (λ a. HasTakenUp c.args.uuid geometry a number end new log)
    (ancestors_are g (goal.at.map_rows-requires-clause-checkpoint g c).After-expected-2-1)
    (subst (λ u. HasTakenUp u geometry first.ancestors number end new log) e.uuid
    (subst (λ n. HasTakenUp first.uuid geometry first.ancestors n end new log) e.frontier
    (subst (λ x. HasTakenUp first.uuid geometry first.ancestors first.queue.frontier x new log) e.end
    (subst (λ l. HasTakenUp first.uuid geometry first.ancestors first.queue.frontier first.queue.end l log) list raw))))

-- and so were those of ancestors
all_inherited : (g : given.Over) (c : After-expected-3-1 g)
    → HasAllInherited (TellsBytes g.S.Receipt.Receipt.state) c.args.geometry c.args.chain.now
    (g.S.Store.state c.args.store.now).objects c.as_slice-bytes.result.now c.expected_alone-expected.result
    c.take_all.new.log c.in-Taken.absent
all_inherited g c =
    let at = (goal.at.map_rows-requires-clause-checkpoint g c).After-log-1 in
    let raw = (rw c.in-Taken.is at c.in_ok-taken.ensures.taken).1 in
    subst (λ (s : StoreState). HasAllInherited (TellsBytes g.S.Receipt.Receipt.state) c.args.geometry c.args.chain.now
    s.objects c.as_slice-bytes.result.now c.expected_alone-expected.result c.take_all.new.log c.in-Taken.absent)
    (same_before g at) raw

-- the rows that are entered are the checkpoint's
mapped_is : (g : given.Over) (c : After-expected-3-1 g)
    → IsCheckpoint c.as_slice-bytes.result.now c.expected_alone-expected.result c.args.checkpoint.end c.requires.read.rows
mapped_is g c =
    let view = c.checkpoint.view_is in
    let bytes_are = c.as_slice-bytes.ensures.value ∙ ap (λ (k : ReadCheckpoint). k.bytes) view in
    as_read c.args.checkpoint.bytes _ _ _ c.args.checkpoint.end c.requires.read.rows bytes_are
    (expected_is g (goal.at.map_rows-requires-clause-checkpoint g c).After-log-1) c.requires.read.is

-- ---- one lacks what rows name of it

pub returns-in-Lacking-clause-begins : goal.returns-in-Lacking-clause-begins
returns-in-Lacking-clause-begins g c = λ tells.
    let uuid = c.args.uuid in
    let geometry = c.args.geometry in
    let chain = c.args.chain.now in
    let volume = expected_of uuid geometry (length chain) in
    let view = c.checkpoint.view_is in
    let checkpoint = c.args.checkpoint in
    let items = c.in_ok-earlier.earlier.items in
    let new = c.reach_all.new.earlier in
    let first = c.new-log.result.uploads in
    let number = c.in-Lacking.number in
    let Tells : Type 0 = TellsBytes g.S.Receipt.Receipt.state in
    let told = (g.S.Store.state c.args.store.now).objects in
    let at = (goal.at.returns-in-Lacking-clause-begins g c).After-log-1 in
    let same = same_objects g at in
    let number_is : c.checkpoint.inside.number ≡ checkpoint.number = ap (λ (k : ReadCheckpoint). k.number) view in
    let all = subst (λ n. IfSome told (λ objects. Lists uuid objects c.args.names.now → AreAllEarlier uuid objects n items))
    number_is c.in_ok-earlier.ensures.all in
    let list = list_is c.in_ok-earlier.earlier.len items new c.in_ok-earlier.earlier.ok.0 same in
    let bytes_are = c.as_slice-bytes.ensures.value ∙ ap (λ (k : ReadCheckpoint). k.bytes) view in
    let Own : Option Objects → List ℕ → ℕ → List EarlierObject → Type 0 = λ t u a l.
    LacksOwn Tells geometry chain t (expected_of u geometry a) l number in
    let Inherits : Option Objects → List ℕ → Expected → Type 0 = λ t b e. LacksInherited Tells geometry chain t b e number in
    let raw = rw c.in-Lacking.is at c.in_ok-taken.ensures.taken in
    let here = subst (λ (s : StoreState). Own s.objects first.uuid first.ancestors
    (take c.in_ok-earlier.earlier.len (new ++ drop (length new) items))
    ⊎ Inherits s.objects c.as_slice-bytes.result.now c.expected_alone-expected.result) (same_before g at) raw in
    let of_list = subst (λ l. Own told first.uuid first.ancestors l
    ⊎ Inherits told c.as_slice-bytes.result.now c.expected_alone-expected.result) list here in
    let of_uuid = subst (λ u. Own told u first.ancestors new
    ⊎ Inherits told c.as_slice-bytes.result.now c.expected_alone-expected.result) c.new-log.ensures.uuid of_list in
    let of_ancestors = subst (λ a. Own told uuid a new
    ⊎ Inherits told c.as_slice-bytes.result.now c.expected_alone-expected.result)
    (ancestors_are g (goal.at.returns-in-Lacking-clause-begins g c).After-expected-2-1) of_uuid in
    let of_bytes = subst (λ b. Own told uuid (length chain) new ⊎ Inherits told b c.expected_alone-expected.result) bytes_are
    of_ancestors in
    let lacks = subst (λ e. Own told uuid (length chain) new ⊎ Inherits told checkpoint.bytes e) (expected_is g at) of_bytes in
    some_lacking uuid geometry chain checkpoint.number c.args.names.now checkpoint.bytes items Tells told new number tells all
    same (λ end rows is. reached_by_rows g at end rows is) (tells_same items new same (c.in_ok-earlier.ensures.tells tells)) lacks

-- ---- the rows

pub map_rows-requires-clause-checkpoint : goal.map_rows-requires-clause-checkpoint
map_rows-requires-clause-checkpoint g c =
    let at = (goal.at.map_rows-requires-clause-checkpoint g c).After-log-1 in
    let read = c.requires.read in
    let new = c.reach_all.new.earlier in (
      c.args.checkpoint.end,
      read.rows,
      mapped_is g c,
      may_map c.args.uuid c.args.geometry (length c.args.chain.now) c.checkpoint.inside.number c.checkpoint.inside.end new
          read.rows c.take_all.new.log
          (earlier_are g at).order (taken_up g c) (reached_by_rows g at c.args.checkpoint.end read.rows read.is).all,
    )

pub returns-in_err-map_rows-clause-answer : goal.returns-in_err-map_rows-clause-answer
returns-in_err-map_rows-clause-answer g c =
    passed_on IsNoAnswer c.from_residual-in_err-map_rows.result errors.OutOfMemory c.from_residual-in_err-map_rows.ensures.1 tt

pub returns-in_err-map_rows-clause-faults : goal.returns-in_err-map_rows-clause-faults
returns-in_err-map_rows-clause-faults g c =
    let old = g.S.Store.state c.args.store.now in
    let middle = g.S.Store.state c.find_earlier.new.store in
    let new = g.S.Store.state c.take_all.new.store in
    let same = same_store old middle c.in_ok-earlier.ensures.unchanged c.in_ok-earlier.ensures.faults in
    passed_as (λ outcome. Counts (ends_by_fault outcome) old.faults new.faults) c.from_residual-in_err-map_rows.result
    errors.OutOfMemory c.from_residual-in_err-map_rows.ensures.1
    (subst (λ (s : StoreState). Counts false s.faults new.faults) same c.in_ok-taken.ensures.faults)

-- ---- the checkpoint itself

-- the rows were entered
has_rows : (g : given.Over) (c : After-uploads_mut g) → HasRows c.requires.read.rows c.take_all.new.log c.map_rows.new.log
has_rows g c =
    c.in_ok-map_rows.ensures c.args.checkpoint.end c.requires.read.rows
    (mapped_is g (goal.at.begin-requires-clause-none g c).After-expected-3-1)

pub begin-requires-clause-newest : goal.begin-requires-clause-newest
begin-requires-clause-newest g c =
    let before = (goal.at.begin-requires-clause-newest g c).After-expected-3-1 in
    let at = (goal.at.begin-requires-clause-newest g c).After-log-1 in
    let log = c.map_rows.new.log in
    let number = c.checkpoint.inside.number in
    let taken = taken_up g before in
    let has = has_rows g c in
    let test = c.if-number-ne0.true in
    let some : 0 < number = grind (arith, nat_tests) in
    let newest = newest_checkpoint c.args.uuid c.args.geometry (length c.args.chain.now) number c.checkpoint.inside.end
    c.reach_all.new.earlier
    c.requires.read.rows c.take_all.new.log log taken has (earlier_are g at).within some in
    subst (λ (u : UploadsState). IsNewest u.queue.maps.objects u.queue.frontier) (sym c.uploads_mut.ensures.is)
    (subst (IsNewest log.uploads.queue.maps.objects) (sym (has.rest.frontier ∙ taken.list.frontier)) newest)

pub begin-requires-clause-named : goal.begin-requires-clause-named
begin-requires-clause-named g c =
    let before = (goal.at.begin-requires-clause-named g c).After-expected-3-1 in
    let log = c.map_rows.new.log in
    let number = c.checkpoint.inside.number in
    let taken = taken_up g before in
    let has = has_rows g c in
    let volume = expected_of c.args.uuid c.args.geometry (length c.args.chain.now) in
    let receipt = g.S.Receipt.Receipt.state c.checkpoint.inside.receipt in
    let named : receipt.name ≡ numbered_name c.args.uuid number =
    subst (λ (k : ReadCheckpoint). k.receipt.name ≡ object_name volume k.number) (sym c.checkpoint.view_is)
    c.requires.read.named in
    let now : receipt.name ≡ numbered_name log.uploads.uuid log.uploads.queue.frontier =
    named ∙ (ap (λ u. numbered_name u number) (sym (has.rest.uuid ∙ taken.list.uuid_is))
    ∙ ap (numbered_name log.uploads.uuid) (sym (has.rest.frontier ∙ taken.list.frontier))) in
    subst (λ (u : UploadsState). receipt.name ≡ numbered_name u.uuid u.queue.frontier) (sym c.uploads_mut.ensures.is) now

pub begin-requires-clause-none : goal.begin-requires-clause-none
begin-requires-clause-none g c =
    let taken = taken_up g (goal.at.begin-requires-clause-none g c).After-expected-3-1 in
    ap (λ (u : UploadsState). u.queue.sealed) c.uploads_mut.ensures.is ∙ ((has_rows g c).rest.sealed ∙ taken.list.sealed)

pub begin-requires-clause-no_removal : goal.begin-requires-clause-no_removal
begin-requires-clause-no_removal g c =
    let taken = taken_up g (goal.at.begin-requires-clause-no_removal g c).After-expected-3-1 in
    ap (λ (u : UploadsState). u.queue.removal) c.uploads_mut.ensures.is ∙ ((has_rows g c).rest.removal ∙ taken.removal)

pub returns-in_err-begin-clause-answer : goal.returns-in_err-begin-clause-answer
returns-in_err-begin-clause-answer g c =
    passed_on IsNoAnswer c.from_residual-in_err-begin.result errors.OutOfMemory c.from_residual-in_err-begin.ensures.1 tt

pub returns-in_err-begin-clause-faults : goal.returns-in_err-begin-clause-faults
returns-in_err-begin-clause-faults g c =
    let old = g.S.Store.state c.args.store.now in
    let middle = g.S.Store.state c.find_earlier.new.store in
    let new = g.S.Store.state c.take_all.new.store in
    let same = same_store old middle c.in_ok-earlier.ensures.unchanged c.in_ok-earlier.ensures.faults in
    passed_as (λ outcome. Counts (ends_by_fault outcome) old.faults new.faults) c.from_residual-in_err-begin.result
    errors.OutOfMemory c.from_residual-in_err-begin.ensures.1
    (subst (λ (s : StoreState). Counts false s.faults new.faults) same c.in_ok-taken.ensures.faults)

-- ---- the whole

-- what the list comes to, with the checkpoint itself or without it
pub record Comes (g : given.Over) (c : After-drop-bytes-2 g) : Type 0 where
  pub begun : HasBegunWith (expected_of c.args.uuid c.args.geometry (length c.args.chain.now)) c.reach_all.new.earlier
      c.requires.read.rows
      c.if-number-ne0.log.uploads.queue
  pub list : IsListUpTo c.args.uuid c.args.geometry (length c.args.chain.now) c.checkpoint.inside.number
      c.checkpoint.inside.end c.if-number-ne0.log
  pub inherited_is : c.if-number-ne0.log.uploads.queue.inherited ≡ c.take_all.new.log.uploads.queue.inherited
  pub lists : ListsTable c.checkpoint.inside.number c.reach_all.new.earlier c.if-number-ne0.log.uploads.queue

comes : (g : given.Over) (c : After-drop-bytes-2 g) → Comes g c
comes g c =
    let before = (goal.at.returns-clause-begins g c).After-expected-3-1 in
    let at = (goal.at.returns-clause-begins g c).After-log-1 in
    let taken = taken_up g before in
    let rows = c.requires.read.rows in
    let log = c.map_rows.new.log in
    let uuid = c.args.uuid in
    let geometry = c.args.geometry in
    let chain = c.args.chain.now in
    let ancestors = length chain in
    let number = c.checkpoint.inside.number in
    let end = c.checkpoint.inside.end in
    let new = c.reach_all.new.earlier in
    let has : HasRows rows c.take_all.new.log log =
    c.in_ok-map_rows.ensures c.args.checkpoint.end rows (mapped_is g before) in
    let order = (earlier_are g at).order in
    let list = list_same uuid geometry ancestors number end c.take_all.new.log log has.rest has.batch taken.list in
    let volume = expected_of uuid geometry ancestors in
    let receipt = g.S.Receipt.Receipt.state c.checkpoint.inside.receipt in
    let all = rows_begun uuid geometry ancestors number end new rows c.take_all.new.log log order taken has in
    elim c.if-number-ne0.branch [
      | then-number-ne0+in_ok-begin w ↦ (
          let now : ObjLogState = record { batch = log.batch; uploads = w.begin.new.self } in
          let begun : HasBegun receipt log.uploads now.uploads =
          subst (λ (u : UploadsState). HasBegun receipt u now.uploads) w.uploads_mut.ensures.is w.in_ok-begin.ensures.begun in
          let with_it = all_begun uuid geometry ancestors number end new rows c.take_all.new.log log order taken has receipt
          now begun in
          let test = w.if-number-ne0.true in
          let some : 0 < number = grind (arith, nat_tests) in
          let newest = newest_checkpoint uuid geometry ancestors number end new rows c.take_all.new.log log taken has
          (earlier_are g at).within some in
          let is : c.if-number-ne0.log ≡ now = w.log-is in
          record {
            begun = subst (λ (l : ObjLogState). HasBegunWith volume new rows l.uploads.queue) (sym is) with_it;
            list = subst (IsListUpTo uuid geometry ancestors number end) (sym is)
                (list_same uuid geometry ancestors number end log now begun.rest refl list);
            inherited_is =
                ap (λ (l : ObjLogState). l.uploads.queue.inherited) is ∙ begun.rest.inherited ∙ has.rest.inherited;
            lists = subst (λ (l : ObjLogState). ListsTable number new l.uploads.queue) (sym is)
                (all_passed uuid geometry ancestors number end new rows c.take_all.new.log log taken has receipt now begun
                newest.above_rows);
          })
      | else-number-ne0 w ↦ (
          let test = w.if-number-ne0.false in
          let none : number ≡ 0 = grind (arith, nat_tests) in
          record {
            begun = subst (λ (l : ObjLogState). HasBegunWith volume new rows l.uploads.queue) (sym w.log-is) all;
            list = subst (IsListUpTo uuid geometry ancestors number end) (sym w.log-is) list;
            inherited_is = ap (λ (l : ObjLogState). l.uploads.queue.inherited) w.log-is ∙ has.rest.inherited;
            lists = subst (λ (l : ObjLogState). ListsTable number new l.uploads.queue) (sym w.log-is)
                (none_begun uuid geometry ancestors number end new rows c.take_all.new.log log taken has none);
          })
    ]

pub returns-clause-begins : goal.returns-clause-begins
returns-clause-begins g c =
    let at = (goal.at.returns-clause-begins g c).After-log-1 in
    let read = c.requires.read in
    let uuid = c.args.uuid in
    let geometry = c.args.geometry in
    let chain = c.args.chain.now in
    let ancestors = length chain in
    let checkpoint = c.args.checkpoint in
    let volume = expected_of uuid geometry ancestors in
    let new = c.reach_all.new.earlier in
    let items = c.in_ok-earlier.earlier.items in
    let log = c.if-number-ne0.log in
    let view = c.checkpoint.view_is in
    let told = (g.S.Store.state c.args.store.now).objects in
    let it = comes g c in
    let reach = (reached_by_rows g at checkpoint.end read.rows read.is).all in
    let stand = rows_stand checkpoint.bytes uuid geometry ancestors checkpoint.number checkpoint.end read.rows read.is in
    let list = subst (λ (k : ReadCheckpoint). IsListUpTo uuid geometry ancestors k.number k.end log) view it.list in
    let order = subst IsUploads c.uploads.ensures c.frontier.ensures.order in
    let lists = subst (λ (k : ReadCheckpoint). ListsTable k.number new log.uploads.queue) view it.lists in
    let number_is : c.checkpoint.inside.number ≡ checkpoint.number = ap (λ (k : ReadCheckpoint). k.number) view in
    let all = subst (λ n. IfSome told (λ objects. Lists uuid objects c.args.names.now → AreAllEarlier uuid objects n items))
    number_is c.in_ok-earlier.ensures.all in
    let before = (goal.at.returns-clause-begins g c).After-expected-3-1 in
    let Tells : Type 0 = TellsBytes g.S.Receipt.Receipt.state in
    let absent = c.in-Taken.absent in
    let taken = all_inherited g before in
    let named = taken.named in
    let names : AreNamedBy read.rows named = taken.rows_name checkpoint.end read.rows (mapped_is g before) in
    let inherits : HasInherited Tells geometry chain told named log.uploads.queue.inherited absent =
    subst (λ l. HasInherited Tells geometry chain told named l absent) (sym it.inherited_is) taken.has in (
      read.rows,
      read.is,
      begins_list Tells uuid geometry chain told checkpoint new named absent read.rows log stand reach it.begun names inherits
          list order lists.table,
      λ tells.
          so_some (λ objects. Lists uuid objects c.args.names.now → IsStoredCheckpoint volume objects checkpoint
          → BeginsInStore volume (uuid_in_chain uuid chain) objects checkpoint.number read.rows log absent) told
          (λ objects of_store listed stored.
          let own = told_at told objects (λ o. Lists uuid o c.args.names.now → AreAllEarlier uuid o checkpoint.number items)
          of_store all listed in
          begins_in_store Tells uuid geometry chain told checkpoint new named absent read.rows log stand reach it.begun names
          inherits list order lists read.is tells
          (tells_same items new (same_objects g at) (c.in_ok-earlier.ensures.tells tells)) objects of_store
          (all_earlier_same items new (same_objects g at) uuid objects checkpoint.number own) stored),
    )
