use Rattle.std.proofs.Common.{◌∙◌, sym}
use Rattle.command_run.proofs.Ran.{fault_of_status, usage_of_status}
use Rattle.command_run.proofs.running.run.Goals as goal

pub returns-clause-usage : goal.returns-clause-usage
returns-clause-usage g c is = c.execute-report.ensures.usage (usage_of_status c.execute-report.result (sym c.status.ensures ∙ is))

pub returns-clause-valid : goal.returns-clause-valid
returns-clause-valid g c options sizes valid words is =
    c.execute-report.ensures.valid options sizes valid words (usage_of_status c.execute-report.result (sym c.status.ensures ∙ is))

pub returns-clause-serve_valid : goal.returns-clause-serve_valid
returns-clause-serve_valid g c options valid words is =
    c.execute-report.ensures.serve_valid options valid words (usage_of_status c.execute-report.result (sym c.status.ensures ∙ is))

pub returns-clause-collect_valid : goal.returns-clause-collect_valid
returns-clause-collect_valid g c options valid words is =
    c.execute-report.ensures.collect_valid options valid words
    (usage_of_status c.execute-report.result (sym c.status.ensures ∙ is))

pub returns-clause-check_valid : goal.returns-clause-check_valid
returns-clause-check_valid g c options valid words is =
    c.execute-report.ensures.check_valid options valid words (usage_of_status c.execute-report.result (sym c.status.ensures ∙ is))

pub returns-clause-churn_valid : goal.returns-clause-churn_valid
returns-clause-churn_valid g c steps seed within below words is =
    c.execute-report.ensures.churn_valid steps seed within below words
    (usage_of_status c.execute-report.result (sym c.status.ensures ∙ is))

pub returns-clause-churn_fault : goal.returns-clause-churn_fault
returns-clause-churn_fault g c steps seed spelled is =
    c.execute-report.ensures.churn_fault steps seed spelled
    (fault_of_status c.execute-report.result (sym c.status.ensures ∙ is))
