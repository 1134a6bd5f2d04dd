-- What the values of the code stand for.
use Rattle.record_proxy.specs.Proxying as proxying
use Rattle.record_proxy.specs.declared.job.ProxyJob.{ProxyJob}

abbrev pub proxy_values : ProxyJob → proxying.ProxyJob
proxy_values job =
    record {
      port = job.port;
      site_port = job.site_port;
      connections = job.connections;
      out = job.out.now;
      until_ended = job.until_ended;
    }
