-- All that was put is the text.
use Rattle.plan_wire.specs.Seen.{certificate_seen}
use Rattle.plan_wire.proofs.ReadBack.Certificates.{whole_text}
use Rattle.plan_wire.proofs.print.print_certificate.Goals as goal

pub returns-clause-read_back : goal.returns-clause-read_back
returns-clause-read_back c =
    whole_text c.new-text.result.items c.put_certificate.new.text.items (certificate_seen c.args.certificate.now) c.new-text.ensures.items c.in_ok-put_certificate.ensures.text c.in_ok-put_certificate.ensures.in_range
