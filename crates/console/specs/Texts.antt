-- The line that an answer is printed as.
use Rattle.std.specs.Prelude.{ℕ, ◌/◌, ◌%◌, List, [], ◌++◌, Some, None, codes, decimal, Option}
use Rattle.console.specs.declared.answers.Answer.{Answer}
use Rattle.sheet.specs.declared.fault.Refusal.{Refusal}
use Rattle.line.specs.Texts.{not_call_text}
use Rattle.sheet.specs.Refusals.{layer_number, refusal_of}
use Rattle.sheet.specs.Texts.{meaning_text}

-- tenths of a per cent as a decimal, as 80.0
abbrev pub tenths_text : ℕ → List ℕ
tenths_text t = decimal (t / 10) ++ (codes "." ++ decimal (t % 10))

-- a coverage that is absent is a dash
abbrev pub coverage_text : Option ℕ → List ℕ
coverage_text None = codes "-"
coverage_text (Some t) = tenths_text t

-- a part of a refusal with its name, or nothing where it is absent
abbrev pub part_text : List ℕ → Option ℕ → List ℕ
part_text name None = []
part_text name (Some n) = codes " " ++ (name ++ (codes " " ++ decimal n))

-- number, place, item and layer, then the meaning
abbrev pub refused_text : Refusal → List ℕ → List ℕ
refused_text r meaning =
    codes "refused "
    ++ (decimal r.number
    ++ (part_text (codes "place") r.place
    ++ (part_text (codes "item") r.item ++ (codes " layer " ++ (decimal (layer_number r.layer) ++ (codes ": " ++ meaning))))))

abbrev pub answer_text : Answer → List ℕ
answer_text (Answer.Row n) = codes "row " ++ decimal n
answer_text Answer.Done = codes "done"
answer_text (Answer.Shown x) =
    codes "sff " ++ (tenths_text x.sff ++ (codes " dc " ++ coverage_text x.diagnostic_coverage))
answer_text (Answer.Refused f) = refused_text (refusal_of f) (meaning_text f)
answer_text (Answer.NotCall w) = codes "not a call: " ++ not_call_text w
