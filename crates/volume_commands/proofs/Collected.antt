-- What a collection of a volume did, as its owner tells it.
use Rattle.std.proofs.Common.{◌≡◌, subst, sym}
use Rattle.std.specs.Prelude.{Ok}
use Rattle.lsvd_objstore.specs.Store.{StoreState, ReceiptState}
use Rattle.vol_core.specs.Volume.{SteppedVolume}
use Rattle.volume_owner.specs.Collecting.{CollectAllOf}
use Rattle.volume_owner.specs.declared.collecting_all.Collected.{Collected}

-- the volume of an owner who has collected it
pub collects_all : {R : Type 0} (state : R → ReceiptState) (collected : Collected) (volume owner closing left : SteppedVolume)
    (old new : StoreState) → owner ≡ volume → left ≡ closing → CollectAllOf state (Ok collected) owner closing old new
    → CollectAllOf state (Ok collected) volume left old new
collects_all state collected volume owner closing left old new same back all =
    subst (λ (v : SteppedVolume). CollectAllOf state (Ok collected) volume v old new) (sym back)
    (subst (λ (v : SteppedVolume). CollectAllOf state (Ok collected) v closing old new) same all)
