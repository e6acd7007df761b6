use Rattle.std.specs.String.{string_bytes}
use Rattle.memtag_dump.specs.Lines.{HasText}
use Rattle.memtag_dump.specs.Refusal.{of_file, of_descriptors}
use Rattle.memtag_dump.specs.Laws.OneText.{lists_of, one_text, no_fault}
use Rattle.memtag_dump.proofs.Clauses.{IsFound, IsRefused, found_by, refused_by, only, refuses, file_cause, descriptors_cause}
use Rattle.memtag_dump.proofs.lines.dump.Goals as goal

-- the file is refused
pub returns-in_err-info-clause-only : goal.returns-in_err-info-clause-only
returns-in_err-info-clause-only c =
    let found : IsFound c.args.file.now c.from_residual.result =
    found_by c.args.file.now c.from_residual.result (of_file c.in_err-info.field-0.0) c.from_residual.ensures.1 in
    let refused : IsRefused c.args.file.now c.from_residual.result =
    refused_by c.args.file.now c.from_residual.result (of_file c.in_err-info.field-0.0) c.from_residual.ensures.1
    (file_cause c.args.file.now c.in_err-info.field-0.0 c.in_err-info.ensures.refused) in
    only c.args.file.now c.from_residual.result found refused

pub returns-in_err-info-clause-refused : goal.returns-in_err-info-clause-refused
returns-in_err-info-clause-refused c =
    let refused : IsRefused c.args.file.now c.from_residual.result =
    refused_by c.args.file.now c.from_residual.result (of_file c.in_err-info.field-0.0) c.from_residual.ensures.1
    (file_cause c.args.file.now c.in_err-info.field-0.0 c.in_err-info.ensures.refused) in
    refused

pub returns-in_err-info-clause-refuses : goal.returns-in_err-info-clause-refuses
returns-in_err-info-clause-refuses c =
    let found : IsFound c.args.file.now c.from_residual.result =
    found_by c.args.file.now c.from_residual.result (of_file c.in_err-info.field-0.0) c.from_residual.ensures.1 in
    let refused : IsRefused c.args.file.now c.from_residual.result =
    refused_by c.args.file.now c.from_residual.result (of_file c.in_err-info.field-0.0) c.from_residual.ensures.1
    (file_cause c.args.file.now c.in_err-info.field-0.0 c.in_err-info.ensures.refused) in
    refuses c.args.file.now c.from_residual.result found refused

-- its descriptors are refused
pub returns-in_err-intervals-clause-only : goal.returns-in_err-intervals-clause-only
returns-in_err-intervals-clause-only c =
    let found : IsFound c.args.file.now c.from_residual-in_err-intervals.result =
    found_by c.args.file.now c.from_residual-in_err-intervals.result
    (of_descriptors c.in_err-intervals.field-0.0) c.from_residual-in_err-intervals.ensures.1 in
    let refused : IsRefused c.args.file.now c.from_residual-in_err-intervals.result =
    refused_by c.args.file.now c.from_residual-in_err-intervals.result
    (of_descriptors c.in_err-intervals.field-0.0) c.from_residual-in_err-intervals.ensures.1
    (descriptors_cause c.args.file.now c.in_ok-info.info c.in_err-intervals.field-0.0 c.in_ok-info.ensures.found
    c.in_err-intervals.ensures.refused) in
    only c.args.file.now c.from_residual-in_err-intervals.result found refused

pub returns-in_err-intervals-clause-refused : goal.returns-in_err-intervals-clause-refused
returns-in_err-intervals-clause-refused c =
    let refused : IsRefused c.args.file.now c.from_residual-in_err-intervals.result =
    refused_by c.args.file.now c.from_residual-in_err-intervals.result
    (of_descriptors c.in_err-intervals.field-0.0) c.from_residual-in_err-intervals.ensures.1
    (descriptors_cause c.args.file.now c.in_ok-info.info c.in_err-intervals.field-0.0 c.in_ok-info.ensures.found
    c.in_err-intervals.ensures.refused) in
    refused

pub returns-in_err-intervals-clause-refuses : goal.returns-in_err-intervals-clause-refuses
returns-in_err-intervals-clause-refuses c =
    let found : IsFound c.args.file.now c.from_residual-in_err-intervals.result =
    found_by c.args.file.now c.from_residual-in_err-intervals.result
    (of_descriptors c.in_err-intervals.field-0.0) c.from_residual-in_err-intervals.ensures.1 in
    let refused : IsRefused c.args.file.now c.from_residual-in_err-intervals.result =
    refused_by c.args.file.now c.from_residual-in_err-intervals.result
    (of_descriptors c.in_err-intervals.field-0.0) c.from_residual-in_err-intervals.ensures.1
    (descriptors_cause c.args.file.now c.in_ok-info.info c.in_err-intervals.field-0.0 c.in_ok-info.ensures.found
    c.in_err-intervals.ensures.refused) in
    refuses c.args.file.now c.from_residual-in_err-intervals.result found refused

-- or the text is said
pub returns-clause-only : goal.returns-clause-only
returns-clause-only c =
    let has : HasText c.args.file.now (string_bytes c.in_ok-text.text) = record {
      info = c.in_ok-info.info;
      globals = lists_of c.in_ok-intervals.intervals;
      entries = c.in_ok-info.ensures.found;
      described = c.in_ok-intervals.ensures.found;
      is = c.in_ok-text.ensures;
    } in
    λ said h. one_text c.args.file.now (string_bytes c.in_ok-text.text) said has h

pub returns-clause-refuses : goal.returns-clause-refuses
returns-clause-refuses c =
    let has : HasText c.args.file.now (string_bytes c.in_ok-text.text) = record {
      info = c.in_ok-info.info;
      globals = lists_of c.in_ok-intervals.intervals;
      entries = c.in_ok-info.ensures.found;
      described = c.in_ok-intervals.ensures.found;
      is = c.in_ok-text.ensures;
    } in
    λ fault h. no_fault c.args.file.now (string_bytes c.in_ok-text.text) fault has h
