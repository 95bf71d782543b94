-- The open objects and the frontier once a put is done.
use Rattle.std.proofs.Common.{◌≡◌, ℕ, ◌+◌, ◌-◌, List, length, true, false, ◌∙◌, ap, arith, length-drop}
use Rattle.lsvd_objstore.specs.Store.{ReceiptState}
use Rattle.upload_window.specs.Window.{WindowState, is_started, below_open, acknowledged}
use Rattle.object_uploads.specs.State.{SealedState, UploadsState}
use Rattle.object_uploads.specs.Queue.{with_at, with_receipt}
use Rattle.object_uploads.specs.Order.{AreOpen, IsUploads}
use Rattle.object_uploads.specs.Changes.{index_of, IsPutDone}
use Rattle.object_uploads.proofs.QueueLemmas.{length-with}
use Rattle.object_uploads.proofs.OpenLemmas.{started_at, open_done, open_dropped, below_by}

module _ (old new : UploadsState) (number : ℕ) (receipt : ReceiptState) (uploads : IsUploads old)
    (started : is_started number old.window.objects ≡ true) (done : IsPutDone number receipt old new) where
  -- the objects past the old frontier, the one whose put is done acknowledged
  abbrev given : List SealedState
  given = with_at (index_of old number) (with_receipt receipt) old.queue.sealed

  -- of those that are not settled then, the window has the open ones
  pub open_after_done : AreOpen (new.queue.frontier + 1) new.queue.sealed new.window.objects
  open_after_done =
      let first = old.queue.frontier + 1 in
      let found = started_at number first old.queue.sealed old.window.objects uploads.opened started in
      let at : number ≡ first + index_of old number = omega (arith, found.0) in
      let opened = open_done number receipt first (index_of old number) old.queue.sealed old.window.objects false uploads.opened
      at
      found.1 in
      let next : new.queue.frontier + 1 ≡ first + done.count = omega (arith, done.settled.frontier) in
      rw (done.settled.sealed, done.window, next) (open_dropped first done.count given
      (acknowledged number old.window).objects opened
      done.settled.within done.settled.acknowledged)

  -- the frontier is below the lowest open number
  pub below_done : below_open new.window ≡ new.queue.frontier
  below_done =
      let size : length given ≡ length old.queue.sealed =
      length-with (index_of old number) (with_receipt receipt) old.queue.sealed in
      let rest : length new.queue.sealed ≡ length given - done.count =
      ap length done.settled.sealed ∙ length-drop done.count given in
      let last : new.window.last ≡ old.window.last = ap (λ (w : WindowState). w.last) done.window in
      below_by new.queue.frontier new.queue.sealed new.window.objects new.window.last open_after_done
      (omega (arith, size, rest, last, uploads.last, done.settled.frontier, done.settled.within)) done.waits
