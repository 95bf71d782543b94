-- What a check tells.
use Rattle.std.proofs.Common.{◌≡◌, ◌≢◌, ℕ, List, [], ◌∷◌, ◌++◌, codes, decimal, inr, refl, subst, sym}
use Rattle.std.specs.Io.KnownBytes.{Appends}
use Rattle.std.specs.Prelude.{IfSome, Option}
use Rattle.uuid.specs.Text.{hyphenated_text, lower}
use Rattle.lsvd_objstore.specs.Objects.{Objects}
use Rattle.lsvd_objstore.specs.Store.{ReceiptState}
use Rattle.stopped_volume.specs.Store.{TellsBytes}
use Rattle.vol_check.specs.Report.{IsReport}
use Rattle.vol_check.specs.declared.report.CheckReport.{CheckReport}
use Rattle.vol_check.specs.declared.report.ObjectOfLevel.{ObjectOfLevel}
use Rattle.volume_commands.specs.declared.report.Report.{Report}
use Rattle.volume_commands.specs.Checking.{ChecksStore, IsCheckText, TellsCheck, check_text, ended_by, missing_words}
use Rattle.volume_commands.specs.Checking.{number_words}
use Rattle.volume_commands.specs.Output.{AppendsFront, AppendsFrontOf}

-- each part was added behind those before it
pub text_is : (found : CheckReport) {uuid last holds checkpoints stranded unneeded : List ℕ} {missing : List ObjectOfLevel}
    {none word named held listed said ended apart spare gone full : List ℕ}
    → none ≡ [] → word ≡ none ++ codes "volume "
    → uuid ≡ hyphenated_text lower found.uuid → named ≡ word ++ uuid
    → holds ≡ found.holds.items → held ≡ named ++ codes "\nholds" ++ number_words holds
    → checkpoints ≡ found.checkpoints.items → listed ≡ held ++ codes "\ncheckpoints" ++ number_words checkpoints
    → said ≡ listed ++ codes "\nlast "
    → last ≡ decimal found.last → ended ≡ said ++ last
    → stranded ≡ found.stranded.items → apart ≡ ended ++ codes "\nstranded" ++ number_words stranded
    → unneeded ≡ found.unneeded.items → spare ≡ apart ++ codes "\nunneeded" ++ number_words unneeded
    → missing ≡ found.missing.items → gone ≡ spare ++ codes "\nmissing" ++ missing_words missing
    → full ≡ gone ++ codes "\n" → full ≡ check_text found
text_is found e0 e1 u e2 h e3 k e4 e5 l e6 s e7 n e8 m e9 e10 =
    rw (e10, e9, m, e8, n, e7, s, e6, l, e5, e4, k, e3, h, e2, u, e1, e0) refl

-- the output took all of the text: the run ends as what was found says
pub told_whole : (found : CheckReport) (ended : Report) (missing : List ObjectOfLevel) (text : List ℕ) (old new : Option (List ℕ))
    → missing ≡ found.missing.items → ended ≡ ended_by missing → text ≡ check_text found → Appends old new text
    → TellsCheck ended old new
told_whole found ended missing text old new lists ends is told =
    subst (λ (e : Report). TellsCheck e old new) (sym ends) (by_list missing lists)
  where
    added : Appends old new (check_text found)
    added = subst (λ (t : List ℕ). Appends old new t) is told

    by_list : (list : List ObjectOfLevel) → list ≡ found.missing.items → TellsCheck (ended_by list) old new
    by_list [] lists = (found, sym lists, added)
    by_list (first ∷ rest) lists = (found, some, added)
      where
        some : found.missing.items ≢ []
        some none = cc

-- and it is of the store
pub checks_whole : {R : Type 0} (receipt_state : R → ReceiptState) (uuid : List ℕ) (objects : Option Objects)
    (found : CheckReport) (ended : Report) (missing : List ObjectOfLevel) (text : List ℕ) (old new : Option (List ℕ))
    → (TellsBytes receipt_state → IfSome objects (λ objects. IsReport uuid objects found))
    → missing ≡ found.missing.items → ended ≡ ended_by missing → text ≡ check_text found → Appends old new text
    → ChecksStore receipt_state uuid objects ended old new
checks_whole receipt_state uuid objects found ended missing text old new reports lists ends is told = record {
  found = found;
  is = reports;
  ends = subst (λ (list : List ObjectOfLevel). ended ≡ ended_by list) lists ends;
  told = subst (λ (t : List ℕ). Appends old new t) is told;
}

-- it took a front of the text
pub told_front : (found : CheckReport) (text : List ℕ) (old new : Option (List ℕ)) → text ≡ check_text found
    → AppendsFront text old new → AppendsFrontOf IsCheckText old new
told_front found text old new is front = inr (text, (found, is), front)
