-- The newest checkpoint that was sealed is the plain volume's.
use Rattle.std.proofs.Common.{◌≡◌, ℕ, ◌+◌, ◌&&◌, Bool, true, false, cond, Option, Some, None, List, [], ◌∷◌, refl, sym, ◌∙◌, ap}
use Rattle.lsvd_objstore.specs.Store.{ReceiptState}
use Rattle.upload_window.specs.declared.object.OpenObject.{OpenObject}
use Rattle.upload_window.specs.Window.{WindowState}
use Rattle.object_uploads.specs.State.{SealedState}
use Rattle.object_uploads.specs.Queue.{is_checkpoint, newest_of}
use Rattle.object_uploads.specs.Order.{IsOpenFirst, AreOpen, AreWaiting}
use Rattle.plain_disk.specs.State.{PlainState, PlainCheckpoint}
use Rattle.plain_disk.specs.Checkpoints.{checkpoint_at, newest_landed}
use Rattle.refine_objects.specs.TableLaws.{NewestIsShown}

-- the newest of a plain volume's open objects after a checkpoint
abbrev newest : PlainState → PlainCheckpoint → List OpenObject → ℕ
newest plain before objects = (newest_landed (λ number. true) plain before objects).number

-- the checkpoint after an object, by a test
after_test : (test : Bool) (number before : ℕ) (plain : PlainState) (checkpoint : PlainCheckpoint) → before ≡ checkpoint.number
    → cond test number before ≡ (cond (test && true) (checkpoint_at number plain) checkpoint).number
after_test true number before plain checkpoint same = refl
after_test false number before plain checkpoint same = same

-- it is that of the sealed objects: those that are acknowledged are no checkpoints
newest_by : (plain : PlainState) (number before : ℕ) (receipt : Option ReceiptState) (test has_spare : Bool)
    (more : List SealedState) (checkpoint : PlainCheckpoint) (objects : List OpenObject)
    → before ≡ checkpoint.number → (test ≡ true → receipt ≡ None)
    → ((before : ℕ) (checkpoint : PlainCheckpoint) (objects : List OpenObject) → before ≡ checkpoint.number
    → AreOpen (number + 1) more objects → newest_of before (number + 1) more ≡ newest plain checkpoint objects)
    → IsOpenFirst number receipt test has_spare objects (AreOpen (number + 1) more)
    → newest_of (cond test number before) (number + 1) more ≡ newest plain checkpoint objects
newest_by plain number before (Some receipt) true has_spare more checkpoint objects same waits rest are =
    let bad = waits refl in absurd cc
newest_by plain number before (Some receipt) false has_spare more checkpoint objects same waits rest are =
    rest before checkpoint objects same are
newest_by plain number before None test has_spare more checkpoint [] same waits rest are = absurd are
newest_by plain number before None test has_spare more checkpoint (object ∷ objects) same waits rest are =
    let next : PlainCheckpoint = cond (object.is_checkpoint && true) (checkpoint_at object.number plain) checkpoint in
    let same_next : cond test number before ≡ next.number =
    after_test test number before plain checkpoint same
    ∙ (ap (λ b. (cond (b && true) (checkpoint_at number plain) checkpoint).number) (sym are.1)
    ∙ ap (λ n. (cond (object.is_checkpoint && true) (checkpoint_at n plain) checkpoint).number) (sym are.0)) in
    rest (cond test number before) next objects same_next are.3

newest_same : (plain : PlainState) (number before : ℕ) (sealed : List SealedState) (checkpoint : PlainCheckpoint)
    (objects : List OpenObject) → before ≡ checkpoint.number → AreWaiting sealed → AreOpen number sealed objects
    → newest_of before number sealed ≡ newest plain checkpoint objects
newest_same plain number before [] checkpoint objects same waiting are = rw are same
newest_same plain number before (sealed ∷ more) checkpoint objects same waiting are =
    newest_by plain number before sealed.receipt (is_checkpoint sealed.rows) sealed.has_spare more checkpoint objects same
    waiting.0 (λ b c o is rest. newest_same plain (number + 1) b more c o is waiting.1 rest) are

pub newest_is_shown : NewestIsShown
newest_is_shown data_at list plain is valid shows =
    let queue = list.uploads.queue in
    newest_same plain (queue.frontier + 1) queue.maps.objects.checkpoint queue.sealed plain.checkpoint list.uploads.window.objects
    shows.table.checkpoint is.waiting is.opened
    ∙ ap (λ (w : WindowState). newest plain plain.checkpoint w.objects) shows.objects.window
