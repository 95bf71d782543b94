-- An object that is adopted, and the image that the objects have.
use Rattle.std.proofs.Common.{◌≡◌, ◌+◌, ◌-◌, [], length, drop, refl, sym, ◌∙◌, ap, subst, arith}
use Rattle.object_stream.specs.declared.object.Content.TheVariants as content
use Rattle.object_stream.specs.Replay.{expected_at}
use Rattle.object_stream.specs.Stream.{end_at, last_number, unsealed}
use Rattle.object_uploads.specs.declared.rows.SealedRows.TheVariants.{Data, Copy}
use Rattle.object_uploads.specs.Order.{IsUploads}
use Rattle.object_uploads.specs.Changes.{IsAdopted}
use Rattle.object_uploads.specs.Stream.{HoldsEntries, HoldsCopy, AreOfStream}
use Rattle.object_uploads.specs.Laws.{with_adopted, with_copy}
use Rattle.object_uploads.proofs.AdoptLemmas as adopt
use Rattle.object_uploads.proofs.AdoptCopy.{adopting_copy_keeps_stream as adopting_copy}
use Rattle.object_uploads.proofs.GrowLemmas.{end_of_object}
use Rattle.object_uploads.proofs.ImageLemmas as images
use Rattle.obj_log.specs.State.{ObjLogState}
use Rattle.obj_log.specs.Changes.{expected_of_volume}
use Rattle.obj_log.specs.Laws.{AdoptingKeepsStreamOfList, AdoptingCopyKeepsStreamOfList}
use Rattle.obj_log.specs.ImageLaws.{NewListHasBlank, RoomKeepsImageOfList, AddingKeepsImageOfList, SealingKeepsImageOfList}
use Rattle.obj_log.specs.ImageLaws.{SealingCopyKeepsImageOfList, JobsKeepImageOfList, DoneMakesImageOfList}
use Rattle.obj_log.specs.ImageLaws.{AdoptingMakesImageOfList, AdoptingCopyKeepsImageOfList}
use Rattle.obj_log.proofs.StreamLemmas.{same_volume, same_sectors, next_seq, next_expected}

pub adopting_keeps_stream : AdoptingKeepsStreamOfList
adopting_keeps_stream data_at stream old new entries bytes rows end receipt uploads is none empty ends some sealed adopted =
    let all_in : unsealed stream ≡ [] = sym is.entries ∙ empty in
    let size : length old.batch.entries ≡ 0 = ap length empty in
    let ends_at : end ≡ stream.end + length stream.entries + length entries =
    omega (arith, ends, size, next_seq data_at stream old is) in
    let holds = subst (λ e. HoldsEntries e entries end bytes rows.items) (next_expected data_at stream old is) sealed in
    let volume = expected_of_volume old in
    let now = adopt.now_of_stream volume data_at stream old.uploads new.uploads entries bytes rows end receipt uploads is.objects
    none all_in ends_at some holds adopted.uploads in
    let now_end = adopt.now_end volume data_at stream old.uploads new.uploads entries bytes rows end receipt uploads is.objects
    none all_in ends_at some holds adopted.uploads in
    let now_all_in = adopt.now_all_in volume data_at stream old.uploads new.uploads entries bytes rows end receipt uploads
    is.objects none all_in ends_at some holds adopted.uploads in
    record {
      objects =
          subst (λ v. AreOfStream v data_at (with_adopted entries end stream) new.uploads)
          (same_volume old new adopted.uploads.uuid adopted.uploads.ancestors adopted.geometry) now;
      sectors = same_sectors old new adopted.uploads.sectors adopted.geometry is.sectors;
      first = adopted.first ∙ sym now_end;
      entries = adopted.entries ∙ sym now_all_in;
    }

pub adopting_copy_keeps_stream : AdoptingCopyKeepsStreamOfList
adopting_copy_keeps_stream data_at stream old new pairs bytes rows receipt uploads is none empty sealed adopted =
    let volume = expected_of_volume old in
    let end = end_at stream (last_number stream) in
    let expected = expected_at volume (last_number stream + 1) end in
    let holds : HoldsCopy expected pairs end bytes rows.items =
    subst (λ e. HoldsCopy expected pairs e bytes rows.items) is.first
    (subst (λ e. HoldsCopy e pairs old.batch.first bytes rows.items) (next_expected data_at stream old is) sealed) in
    let taken = subst (λ e. IsAdopted (Copy rows) e receipt old.uploads new.uploads) is.first adopted.uploads in
    let last = end_of_object stream (record { content = content.Copy pairs; end = end }) in
    record {
      objects =
          subst (λ v. AreOfStream v data_at (with_copy pairs stream) new.uploads)
          (same_volume old new adopted.uploads.uuid adopted.uploads.ancestors adopted.geometry)
          (adopting_copy volume data_at stream old.uploads new.uploads pairs bytes rows receipt uploads is.objects none holds
          taken);
      sectors = same_sectors old new adopted.uploads.sectors adopted.geometry is.sectors;
      first = adopted.first ∙ (is.first ∙ sym last);
      entries =
          adopted.entries
          ∙ (sym empty ∙ (is.entries ∙ ap (λ e. drop (e - stream.end) stream.entries) (sym last)));
    }

-- ---- the image

pub new_list_has_blank : NewListHasBlank
new_list_has_blank log sectors none settled = images.image_begins log.uploads.queue sectors none settled

pub room_keeps_image : RoomKeepsImageOfList
room_keeps_image old new same = images.room_keeps_image old.uploads new.uploads same.uploads

pub adding_keeps_image : AddingKeepsImageOfList
adding_keeps_image entry data_at old new added =
    images.entering_keeps_image entry (old.batch.first + length old.batch.entries) data_at old.uploads.queue new.uploads.queue
    added.entered

pub sealing_keeps_image : SealingKeepsImageOfList
sealing_keeps_image old new sealed =
    images.sealing_keeps_image sealed.bytes (Data sealed.rows) (old.batch.first + sealed.count) old.uploads new.uploads refl
    sealed.uploads

pub sealing_copy_keeps_image : SealingCopyKeepsImageOfList
sealing_copy_keeps_image bytes rows end old new tells image sealed own has told copied =
    images.sealing_copy_keeps_image bytes rows end old.uploads new.uploads tells image sealed own has told copied

pub jobs_keep_image : JobsKeepImageOfList
jobs_keep_image number started log = images.jobs_keep_image number started log.uploads

pub done_makes_image : DoneMakesImageOfList
done_makes_image data_at stream old new number bytes receipt tells image uploads is done out for_it told alike ends has copied =
    let made = images.done_makes_image (expected_of_volume old) data_at stream old.uploads new.uploads number bytes receipt tells
    image uploads is.objects done out for_it told alike ends has copied in
    (made.0, images.done_keeps_receipts old.uploads new.uploads number bytes receipt done out for_it told, made.1)

-- where no object is past the frontier, that is the last one
next_number : (log : ObjLogState) → IsUploads log.uploads → log.uploads.queue.sealed ≡ []
    → log.uploads.window.last ≡ log.uploads.queue.frontier
next_number log uploads none =
    let size : length log.uploads.queue.sealed ≡ 0 = ap length none in omega (arith, size, uploads.last)

pub adopting_makes_image : AdoptingMakesImageOfList
adopting_makes_image data_at stream old new entries object rows end receipt image uploads is none sealed adopted
    tells ends has =
    let at = next_number old uploads none in
    let holds = subst (λ n. HoldsEntries (expected_at (expected_of_volume old) (n + 1) old.batch.first) entries end object
    rows.items) at sealed in (
      images.adopting_makes_image (expected_of_volume old) old.batch.first entries object rows end receipt old.uploads
          new.uploads image uploads holds adopted.uploads tells ends has,
      rw adopted.uploads.settled.sealed tt,
      λ tells. rw adopted.uploads.settled.sealed tt,
    )

pub adopting_copy_keeps_image : AdoptingCopyKeepsImageOfList
adopting_copy_keeps_image data_at stream old new pairs bytes rows end receipt image uploads is none sealed adopted for_it copied
    has =
    let at = next_number old uploads none in
    let holds = subst (λ n. HoldsCopy (expected_at (expected_of_volume old) (n + 1) old.batch.first) pairs end bytes rows.items)
    at sealed in (
      images.adopting_copy_keeps_image (expected_of_volume old) old.batch.first pairs bytes rows end receipt old.uploads
          new.uploads image uploads holds adopted.uploads for_it copied has,
      rw adopted.uploads.settled.sealed tt,
      λ tells. rw adopted.uploads.settled.sealed tt,
    )
