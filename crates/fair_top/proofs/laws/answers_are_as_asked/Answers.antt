use Rattle.fair_top.proofs.AsAsked.{rounds_are_asked, depths_are_asked, reports_are_asked, certificates_are_asked, sheets_are_asked, reports_begin, certificates_begin, waves_are_asked, summaries_are_true}
use Rattle.fair_top.proofs.laws.answers_are_as_asked.Goals as goal

pub returns-clause-rounds : goal.returns-clause-rounds
returns-clause-rounds c = rounds_are_asked

pub returns-clause-shortest : goal.returns-clause-shortest
returns-clause-shortest c = depths_are_asked

pub returns-clause-reports : goal.returns-clause-reports
returns-clause-reports c = reports_are_asked

pub returns-clause-certificates : goal.returns-clause-certificates
returns-clause-certificates c = certificates_are_asked

pub returns-clause-sheets : goal.returns-clause-sheets
returns-clause-sheets c = sheets_are_asked

pub returns-clause-reports_begin : goal.returns-clause-reports_begin
returns-clause-reports_begin c = reports_begin

pub returns-clause-certificates_begin : goal.returns-clause-certificates_begin
returns-clause-certificates_begin c = certificates_begin

pub returns-clause-waves : goal.returns-clause-waves
returns-clause-waves c = waves_are_asked

pub returns-clause-summaries : goal.returns-clause-summaries
returns-clause-summaries c = summaries_are_true
